use Rattle.std.proofs.Common.{List, ℕ, length, inl, sym, subst, ◌∙◌}
use Rattle.std.specs.Io.KnownBytes.{Appends}
use Rattle.byte_streams.specs.Streams.{AppendsFront}
use Rattle.script_commands.specs.Outcomes.{PlayedEnds, WritesPlay}
use Rattle.script_commands.specs.Plays.{play_behind, own_behind}
use Rattle.journal_commands.specs.Statuses.{IsQuiet, IsUnstarted}
use Rattle.journal_commands.specs.declared.status.Status.{Status}
use Rattle.journal_commands.specs.StatusLaws.{ended_loud, ended_begun, ended_no_fault, ended_remembers}
use Rattle.script_commands.proofs.Played.{writes_has, wrote_play, full_is}
use Rattle.script_commands.proofs.plays.write_play.Goals as goal

-- the text was written
pub returns-in-Ok-write_all-clause-ends : goal.returns-in-Ok-write_all-clause-ends
returns-in-Ok-write_all-clause-ends g c =
    let before = c.args.machine.ledger in
    let s = c.args.script.now in
    let n = length c.args.ears.now.begun in
    let old = g.W.Sink.written c.args.sink.now in
    let new = g.W.Sink.written c.write_all.new.sink in
    let bytes = c.as_slice.ensures ∙ c.in-Ok.ensures.text in
    subst (λ (status : Status). PlayedEnds (own_behind c.args.output before s) n before s status old new) (sym c.ended_as.ensures)
    (wrote_play (own_behind c.args.output before s) n before s c.in-Ok.text.full old new c.requires.enough c.in-Ok.ensures.full (subst (λ (b : List ℕ). Appends old new b) bytes c.in-Ok-write_all.ensures.ok))

pub returns-in-Ok-write_all-clause-fault : goal.returns-in-Ok-write_all-clause-fault
returns-in-Ok-write_all-clause-fault g c = λ e. absurd (ended_no_fault c.in-Ok.text.full (sym c.ended_as.ensures ∙ e))

pub returns-in-Ok-write_all-clause-untouched : goal.returns-in-Ok-write_all-clause-untouched
returns-in-Ok-write_all-clause-untouched g c = λ q. absurd (ended_loud c.in-Ok.text.full (subst IsQuiet c.ended_as.ensures q))

pub returns-in-Ok-write_all-clause-whole : goal.returns-in-Ok-write_all-clause-whole
returns-in-Ok-write_all-clause-whole g c = λ _. inl (full_is c.args.machine.ledger c.args.script.now c.ended_as.result c.in-Ok.text.full c.ended_as.ensures c.in-Ok.ensures.full)

pub returns-in-Ok-write_all-clause-begins : goal.returns-in-Ok-write_all-clause-begins
returns-in-Ok-write_all-clause-begins g c = λ u. ended_begun c.in-Ok.text.full (subst IsUnstarted c.ended_as.ensures u)

pub returns-in-Ok-write_all-clause-writable : goal.returns-in-Ok-write_all-clause-writable
returns-in-Ok-write_all-clause-writable g c = λ w.
    c.in-Ok.ensures.writable (writes_has c.args.output (play_behind c.args.machine.ledger c.args.script.now).full (subst (WritesPlay c.args.output) (full_is c.args.machine.ledger c.args.script.now c.ended_as.result c.in-Ok.text.full c.ended_as.ensures c.in-Ok.ensures.full) w))

pub returns-in-Ok-write_all-clause-current : goal.returns-in-Ok-write_all-clause-current
returns-in-Ok-write_all-clause-current g c = λ _. c.in-Ok.ensures.current

pub returns-in-Ok-write_all-clause-front : goal.returns-in-Ok-write_all-clause-front
returns-in-Ok-write_all-clause-front g c = λ e. absurd (ended_remembers c.in-Ok.text.full (sym c.ended_as.ensures ∙ e))

-- a front of it was written
pub returns-clause-ends : goal.returns-clause-ends
returns-clause-ends g c =
    let bytes = c.as_slice.ensures ∙ c.in-Ok.ensures.text in
    (c.requires.enough, subst (λ (b : List ℕ). AppendsFront (g.W.Sink.written c.args.sink.now) (g.W.Sink.written c.write_all.new.sink) b) bytes c.in-Err.ensures.err)

pub returns-clause-whole : goal.returns-clause-whole
returns-clause-whole g c = λ calm. absurd (calm c.in-Err.ensures.fault)

pub returns-clause-current : goal.returns-clause-current
returns-clause-current g c = λ _. c.in-Ok.ensures.current
