use Rattle.std.proofs.Common.{◌≡◌, ℕ, Result, Ok, Err, OnErr, sym, subst, ◌∙◌}
use Rattle.std.specs.Prelude.{OnOk}
use Rattle.drmaa_model.specs.History.{Ledger}
use Rattle.journal_text.specs.Printing.{IsPrintable}
use Rattle.change_callbacks.specs.Places.{registrations_of}
use Rattle.script_play.specs.CallbackLaws.{current-front-after}
use Rattle.script_play.specs.Callbacks.{AreCurrentAfter}
use Rattle.script_play.specs.View.{start_of}
use Rattle.text_codec.specs.Formats.{choose}
use Rattle.script_commands.specs.declared.plays.PlayText.{PlayText}
use Rattle.script_commands.specs.Outcomes.{HasJournal}
use Rattle.script_commands.specs.Plays.{play_behind, ledger_text, own_text, own_behind, text_behind, IsWrittenBy}
use Rattle.script_commands.proofs.Played.{text_is}
use Rattle.std.proofs.lemmas.Result.{IfOk-weaker}
use Rattle.script_commands.proofs.plays.played_text.Goals as goal

on_err : {A E : Type 0} (r : Result A E) (P : Type 0) → P → OnErr r P
on_err (Ok a) P p = tt
on_err (Err e) P p = p

on_ok : {A E : Type 0} (r : Result A E) (P : Type 0) → P → OnOk r P
on_ok (Ok a) P p = p
on_ok (Err e) P p = tt

pub text_of-requires : goal.text_of-requires
text_of-requires g c = record { printable = subst (λ (l : Ledger). IsPrintable l.config l.history) (sym c.in_ok-played.ensures.ledger) c.requires.printable }

pub returns-clause-text : goal.returns-clause-text
returns-clause-text g c =
    let before = c.args.machine.ledger in
    let s = c.args.script.now in
    let after = c.in_ok-played.played.machine.ledger in
    let full = c.in_ok-played.played.full in
    let same = text_is c.args.output after before s full c.in_ok-played.ensures.ledger c.in_ok-played.ensures.world c.in_ok-played.ensures.full in
    IfOk-weaker c.text_of.result (λ (t : PlayText). t.bytes ≡ choose full (λ (size : ℕ). ledger_text after) (own_text c.args.output after)) (λ (t : PlayText). t.bytes ≡ text_behind (own_behind c.args.output before s) before s)
    (λ t e. e ∙ same) c.text_of.ensures.text

pub returns-clause-full : goal.returns-clause-full
returns-clause-full g c =
    IfOk-weaker c.text_of.result (λ (t : PlayText). t.full ≡ c.in_ok-played.played.full) (λ (t : PlayText). t.full ≡ (play_behind c.args.machine.ledger c.args.script.now).full)
    (λ t e. e ∙ c.in_ok-played.ensures.full) c.text_of.ensures.full

pub returns-clause-writable : goal.returns-clause-writable
returns-clause-writable g c = λ has.
    subst (λ (l : Ledger). OnOk c.text_of.result (IsWrittenBy l)) c.in_ok-played.ensures.ledger
    (c.text_of.ensures.writable (subst (HasJournal c.args.output) (sym c.in_ok-played.ensures.full) has))

-- the whole script was played
pub returns-clause-current : goal.returns-clause-current
returns-clause-current g c =
    let before = c.args.machine.ledger in
    on_ok c.text_of.result _
    (subst (λ (l : Ledger). AreCurrentAfter g.B.Callback.counted g.B.Callback.told (registrations_of before.config before.history) l c.play_on.new.ears) c.in_ok-played.ensures.ledger c.in_ok-played.ensures.current)

pub returns-clause-front : goal.returns-clause-front
returns-clause-front g c =
    let before = c.args.machine.ledger in
    on_err c.text_of.result _ (current-front-after before.config (start_of before) (play_behind before c.args.script.now).entries c.play_on.new.ears
    (subst (λ (l : Ledger). AreCurrentAfter g.B.Callback.counted g.B.Callback.told (registrations_of before.config before.history) l c.play_on.new.ears) c.in_ok-played.ensures.ledger c.in_ok-played.ensures.current))
