use Rattle.std.proofs.Common.{◌≡◌, ◌⊎◌, ◌≤◌, List, length, Err, inl, inr, refl, sym, ap, subst}
use Rattle.drmaa_model.specs.History.{Ledger}
use Rattle.revival.specs.declared.revives.ReviveFault.{ReviveFault}
use Rattle.journal_commands.specs.declared.status.Status.{Status}
use Rattle.journal_commands.specs.declared.status.Status.TheVariants.{Memory}
use Rattle.journal_commands.specs.Statuses.{ended_as}
use Rattle.change_callbacks.specs.Places.{registrations_of}
use Rattle.script_play.specs.Callbacks.{HearHistoryAfter, HearFrontAfter}
use Rattle.script_play.specs.View.{start_of}
use Rattle.script_commands.specs.declared.plays.Output.TheVariants.{Journal as JournalOutput}
use Rattle.script_commands.specs.Continuing.{ReadEnds, Continues}
use Rattle.script_commands.specs.Outcomes.{PlayedEnds, WritesPlay}
use Rattle.script_commands.specs.Plays.{play_behind, served_behind, journal_behind, IsWrittenBy}
use Rattle.script_commands.specs.Registers.{registers_of, HasPlayed}
use Rattle.script_commands.proofs.Went.{went_on, faulted, none_forged, was_played, was_refused}
use Rattle.script_commands.proofs.continues.go_on.Goals as goal

pub returns-in-Ok-clause-ends : goal.returns-in-Ok-clause-ends
returns-in-Ok-clause-ends g c =
    let read = c.args.read in
    let old = g.W.Sink.written c.args.sink.now in
    let new = g.W.Sink.written c.play_to.new.sink in
    let before = c.args.callbacks in
    let after = c.play_to.result.callbacks in
    let status = c.play_to.result.status in
    went_on g.B.Callback.counted g.B.Callback.told read old new before after status c.in-Ok.ensures.legal
    (subst (λ (l : Ledger). PlayedEnds (journal_behind l read.script) (length before) l read.script status old new) c.in-Ok.ensures.ok c.play_to.ensures.ends)
    (subst (λ (l : Ledger). WritesPlay JournalOutput status → IsWrittenBy (served_behind l read.script)) c.in-Ok.ensures.ok c.play_to.ensures.writable)
    (subst (λ (l : Ledger). HasPlayed status → HearHistoryAfter g.B.Callback.counted g.B.Callback.told (registrations_of l.config l.history) l.config (served_behind l read.script).history before after) c.in-Ok.ensures.ok c.play_to.ensures.heard)
    (subst (λ (l : Ledger). status ≡ Memory → (after ≡ before) ⊎ HearFrontAfter g.B.Callback.counted g.B.Callback.told l.config (start_of l) (play_behind l read.script).entries before after) c.in-Ok.ensures.ok c.play_to.ensures.heard_front)

pub returns-in-Ok-clause-whole : goal.returns-in-Ok-clause-whole
returns-in-Ok-clause-whole g c = λ calm.
    let read = c.args.read in
    let n = length c.args.callbacks in
    let enough = subst (λ (bs : List g.row.B.Denot). registers_of c.args.read.script ≤ length bs) c.as_slice.ensures (c.are_enough.ensures.0 c.if-not-are_enough.false) in
    elim (c.play_to.ensures.whole calm) as (λ _. (c.play_to.result.status ≡ Memory) ⊎ Continues n read c.play_to.result.status) [
      | inl is ↦
          inr (was_played n read c.play_to.result.status enough c.in-Ok.ensures.legal (none_forged c.in-Ok.machine _ c.in-Ok.ensures.only_fault)
          (subst (λ (l : Ledger). c.play_to.result.status ≡ ended_as (play_behind l read.script).full) c.in-Ok.ensures.ok is))
      | inr short ↦ inl short
    ]

pub returns-clause-ends : goal.returns-clause-ends
returns-clause-ends g c =
    let old = g.W.Sink.written c.args.sink.now in
    let enough = subst (λ (bs : List g.row.B.Denot). registers_of c.args.read.script ≤ length bs) c.as_slice.ensures (c.are_enough.ensures.0 c.if-not-are_enough.false) in
    subst (ReadEnds g.B.Callback.counted g.B.Callback.told c.args.read old old c.args.callbacks c.args.callbacks) (sym c.fault_status.ensures)
    (faulted g.B.Callback.counted g.B.Callback.told c.args.read old old c.args.callbacks c.args.callbacks c.in-Err.fault enough refl
    (λ entry given machine is. c.in-Err.ensures.fault entry given machine (ap (λ (why : ReviveFault). Err why) is)))

pub returns-clause-whole : goal.returns-clause-whole
returns-clause-whole g c = λ calm.
    let n = length c.args.callbacks in
    let enough = subst (λ (bs : List g.row.B.Denot). registers_of c.args.read.script ≤ length bs) c.as_slice.ensures (c.are_enough.ensures.0 c.if-not-are_enough.false) in
    subst (λ (s : Status). (s ≡ Memory) ⊎ Continues n c.args.read s) (sym c.fault_status.ensures)
    (was_refused n c.args.read c.in-Err.fault enough c.in-Err.ensures.only_legal c.in-Err.ensures.only_fault)
