use Rattle.std.proofs.Common.{ℕ, List, length, inl, inr, refl, sym, ap, subst, ◌∙◌}
use Rattle.change_callbacks.specs.Ears.{Listening}
use Rattle.change_callbacks.specs.Places.{registrations_of}
use Rattle.script_play.specs.View.{start_of}
use Rattle.script_commands.specs.Outcomes.{PlayedEnds}
use Rattle.script_commands.specs.Registers.{AreReturned}
use Rattle.script_commands.specs.Plays.{play_behind, served_behind, own_behind}
use Rattle.script_commands.proofs.Returned.{hear_current, hear_front, returned_heard, returned_same}
use Rattle.script_commands.proofs.plays.play_to.Goals as goal

-- no script was played
pub returns-in-Err-clause-heard_front : goal.returns-in-Err-clause-heard_front
returns-in-Err-clause-heard_front g c = λ want. inl c.in-Err.ensures.err

pub returns-in-Err-clause-returned : goal.returns-in-Err-clause-returned
returns-in-Err-clause-returned g c = subst (λ (bs : List g.row.B.Denot). AreReturned g.B.Callback.counted g.B.Callback.told c.args.callbacks bs) (sym c.in-Err.ensures.err) (returned_same g.B.Callback.counted g.B.Callback.told c.args.callbacks)

pub returns-in-Err-clause-whole : goal.returns-in-Err-clause-whole
returns-in-Err-clause-whole g c = λ _. inr refl

-- the ears were the callbacks'
pub returns-clause-ends : goal.returns-clause-ends
returns-clause-ends g c =
    let before = c.args.machine.ledger in
    let s = c.args.script.now in
    subst (λ (n : ℕ). PlayedEnds (own_behind c.args.output before s) n before s c.write_play-status.result (g.W.Sink.written c.args.sink.now) (g.W.Sink.written c.write_play-status.new.sink))
    (ap (λ (e : Listening g.row.B.Denot). length e.begun) c.in-Ok.ensures.ok) c.write_play-status.ensures.ends

pub returns-clause-heard : goal.returns-clause-heard
returns-clause-heard g c = λ played.
    let before = c.args.machine.ledger in
    hear_current g.B.Callback.counted g.B.Callback.told (registrations_of before.config before.history) before.config (served_behind before c.args.script.now).history c.write_play-status.new.ears c.args.callbacks c.take_back.result
    (c.write_play-status.ensures.current played) (c.write_play-status.ensures.begun ∙ ap (λ (e : Listening g.row.B.Denot). e.begun) c.in-Ok.ensures.ok) c.take_back.ensures.callbacks

pub returns-clause-heard_front : goal.returns-clause-heard_front
returns-clause-heard_front g c = λ want.
    let before = c.args.machine.ledger in
    inr (hear_front g.B.Callback.counted g.B.Callback.told before.config (start_of before) (play_behind before c.args.script.now).entries c.write_play-status.new.ears c.args.callbacks c.take_back.result
    (c.write_play-status.ensures.front want) (c.write_play-status.ensures.begun ∙ ap (λ (e : Listening g.row.B.Denot). e.begun) c.in-Ok.ensures.ok) c.take_back.ensures.callbacks)

pub returns-clause-returned : goal.returns-clause-returned
returns-clause-returned g c =
    returned_heard g.B.Callback.counted g.B.Callback.told c.write_play-status.new.ears c.args.callbacks c.take_back.result c.write_play-status.ensures.heard
    (c.write_play-status.ensures.begun ∙ ap (λ (e : Listening g.row.B.Denot). e.begun) c.in-Ok.ensures.ok) c.take_back.ensures.callbacks
