use Rattle.batch_command.proofs.Machines.{local_for, named_for, script_and_slots, script_slots_and_name}
use Rattle.batch_command.proofs.words.machine_of.Goals as goal

pub returns-in-len2 : goal.returns-in-len2
returns-in-len2 c =
    local_for c.args.words.now _ c.machine_with.result
    (script_and_slots c.args.words.now _ _ _ _ _ _ c.as_slice.ensures c.word-item.is c.slots-item.is c.in-len2.len_at_least c.in-len2.len_below c.as_str.ensures.value c.eq.ensures
    c.if-eq.true c.as_str-in-len2.ensures.value)
    c.machine_with.ensures

pub returns-in-len3 : goal.returns-in-len3
returns-in-len3 c =
    named_for c.args.words.now _ _ c.machine_with-in-len3.result
    (script_slots_and_name c.args.words.now _ _ _ _ _ _ _ _ c.as_slice.ensures c.word-item-then-this-lt4.is c.slots-item-then-this-lt4.is c.name-item.is c.in-len3.len_at_least
    c.in-len3.len_below c.as_str-then-this-lt4.ensures.value c.eq-then-this-lt4.ensures c.if-eq-2.true c.as_str-in-len3.ensures.value c.as_str-in-len3-2.ensures.value)
    c.machine_with-in-len3.ensures
