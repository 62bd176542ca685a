use Rattle.std.proofs.Common.{◌≡◌, ◌∙◌, [], sym, subst, refl, None, Some, Option}
use Rattle.std.specs.Prelude.{IsOk, IfSome}
use Rattle.std.proofs.lemmas.Option.{IfSome_then}
use Rattle.drmaa_types.specs.declared.refusals.Refusal.{Refusal}
use Rattle.slab.specs.Slab.{get}
use Rattle.attendant.specs.Acts.{own_acts}
use Rattle.attendant.specs.Posts.{post}
use Rattle.attendant.specs.Loops.{stage}
use Rattle.attendant.specs.Outside.{Tends, IsHeldUp}
use Rattle.attendant.specs.PairLaws.{post-itself}
use Rattle.attendant.proofs.Desks.{still-free, still-both}
use Rattle.attendant.proofs.Places.{kept_some, first_some}
use Rattle.attendant.proofs.Loops.{attending_on, held_on, held_from, Looked, looked_none, looked_once}
use Rattle.attendant.proofs.Firsts.{Stands, stands_on, stands_refused, ends_ok}
use Rattle.attendant.proofs.attending.run_attendant.Goals as goal
use Rattle.attendant.proofs.attending.run_attendant.Goals.{in-Ok, in-Err, then-over+in_default+else-is_settled, else-over}

first_is_some : (o : Option Refusal) (why : Refusal) → o ≡ None → o ≡ Some why → ⊥
first_is_some o why none some = cc

pub loop-init : goal.loop-init
loop-init g c = record {
  launcher = post-itself _ c.requires.launcher;
  reaping = post-itself _ c.requires.reaping;
  attending = record { fates = refl; tends = λ t. t; keeps = λ k. k; agrees = λ clean k a. a };
  held = tt;
  rounds = ([], refl);
}

pub returns-in-Some-kept-clause-launcher : goal.returns-in-Some-kept-clause-launcher
returns-in-Some-kept-clause-launcher g c = still-both _ _ _ c.loop.invariant.launcher c.attend_once.ensures.launcher

pub returns-in-Some-kept-clause-reaping : goal.returns-in-Some-kept-clause-reaping
returns-in-Some-kept-clause-reaping g c = still-both _ _ _ c.loop.invariant.reaping c.attend_once.ensures.reaping

pub returns-in-Some-kept-clause-err : goal.returns-in-Some-kept-clause-err
returns-in-Some-kept-clause-err g c =
    let i = c.loop.invariant in
    let e = c.attend_once.ensures in
    let h : IfSome c.match-attend_once.kept (IsHeldUp (post g.C.Clock.given g.C.Clock.least c.args.launcher.now) (post g.C.Clock.given g.C.Clock.least c.attend_once.new.launcher) (post g.C.Clock.given g.C.Clock.least c.args.reaping.now) (post g.C.Clock.given g.C.Clock.least c.attend_once.new.reaping)
    (Tends (own_acts c.args.launcher.now.client) (own_acts c.args.reaping.now.client) (get c.args.reaper.now.children) c.args.reaper.now.order)) = elim c.match-attend_once.branch [
      | in-Ok w ↦ kept_some c.loop.kept c.match-attend_once.kept _ _ w.kept-is (λ why. held_on _ _ _ _ _ _ _ why e.launcher e.reaping) i.held
      | in-Err w ↦ first_some c.loop.kept c.match-attend_once.kept w.in-Err.why _ _ (w.kept-is ∙ w.first_of-kept.ensures) (λ why. held_on _ _ _ _ _ _ _ why e.launcher e.reaping) i.held
          (held_from _ _ _ _ _ _ _ _ _ i.launcher i.reaping i.attending.tends w.in-Err.ensures.err)
    ] in
    rw c.in-Some-kept.is at h

pub returns-in-Some-kept-clause-rounds : goal.returns-in-Some-kept-clause-rounds
returns-in-Some-kept-clause-rounds g c =
    let i = c.loop.invariant in
    let e = c.attend_once.ensures in
    let s : Stands g.S.One.Child.told g.S.One.Child.faults (stage (post g.C.Clock.given g.C.Clock.least c.args.launcher.now) (post g.C.Clock.given g.C.Clock.least c.args.reaping.now) (g.S.Spawner.asked c.args.spawner.now) (g.S.Spawner.fate c.args.spawner.now) c.args.reaper.now.children c.args.reaper.now.order)
    (stage (post g.C.Clock.given g.C.Clock.least c.attend_once.new.launcher) (post g.C.Clock.given g.C.Clock.least c.attend_once.new.reaping) (g.S.Spawner.asked c.attend_once.new.spawner) (g.S.Spawner.fate c.attend_once.new.spawner) c.attend_once.new.reaper.children c.attend_once.new.reaper.order) c.match-attend_once.kept = elim c.match-attend_once.branch [
      | in-Ok w ↦ subst (Stands g.S.One.Child.told g.S.One.Child.faults (stage (post g.C.Clock.given g.C.Clock.least c.args.launcher.now) (post g.C.Clock.given g.C.Clock.least c.args.reaping.now) (g.S.Spawner.asked c.args.spawner.now) (g.S.Spawner.fate c.args.spawner.now) c.args.reaper.now.children c.args.reaper.now.order)
          (stage (post g.C.Clock.given g.C.Clock.least c.attend_once.new.launcher) (post g.C.Clock.given g.C.Clock.least c.attend_once.new.reaping) (g.S.Spawner.asked c.attend_once.new.spawner) (g.S.Spawner.fate c.attend_once.new.spawner) c.attend_once.new.reaper.children c.attend_once.new.reaper.order)) (sym w.kept-is)
          (stands_on g.S.One.Child.told g.S.One.Child.faults _ _ _ _ _ _ _ _ _ _ c.loop.kept i.rounds w.in-Ok.ensures.served e.launcher e.reaping (looked_none _ _ (still-free _ _ e.launcher) (still-free _ _ e.reaping)))
      | in-Err w ↦ subst (Stands g.S.One.Child.told g.S.One.Child.faults (stage (post g.C.Clock.given g.C.Clock.least c.args.launcher.now) (post g.C.Clock.given g.C.Clock.least c.args.reaping.now) (g.S.Spawner.asked c.args.spawner.now) (g.S.Spawner.fate c.args.spawner.now) c.args.reaper.now.children c.args.reaper.now.order)
          (stage (post g.C.Clock.given g.C.Clock.least c.attend_once.new.launcher) (post g.C.Clock.given g.C.Clock.least c.attend_once.new.reaping) (g.S.Spawner.asked c.attend_once.new.spawner) (g.S.Spawner.fate c.attend_once.new.spawner) c.attend_once.new.reaper.children c.attend_once.new.reaper.order)) (sym (w.kept-is ∙ w.first_of-kept.ensures))
          (stands_refused g.S.One.Child.told g.S.One.Child.faults _ _ _ _ _ _ _ _ _ _ c.loop.kept w.in-Err.why i.rounds w.in-Err.ensures.refused e.launcher e.reaping (looked_none _ _ (still-free _ _ e.launcher) (still-free _ _ e.reaping)))
    ] in
    rw c.in-Some-kept.is at s

pub returns-then-is_settled-clause-launcher : goal.returns-then-is_settled-clause-launcher
returns-then-is_settled-clause-launcher g c = still-both _ _ _ (still-both _ _ _ c.loop.invariant.launcher c.attend_once.ensures.launcher) c.is_settled.ensures.launcher

pub returns-then-is_settled-clause-reaping : goal.returns-then-is_settled-clause-reaping
returns-then-is_settled-clause-reaping g c = rw c.is_settled.ensures.reaping (still-both _ _ _ c.loop.invariant.reaping c.attend_once.ensures.reaping)

pub returns-then-is_settled-clause-rounds : goal.returns-then-is_settled-clause-rounds
returns-then-is_settled-clause-rounds g c =
    let i = c.loop.invariant in
    let e = c.attend_once.ensures in
    let look : Looked (post g.C.Clock.given g.C.Clock.least c.attend_once.new.launcher) (post g.C.Clock.given g.C.Clock.least c.is_settled.new.launcher) (post g.C.Clock.given g.C.Clock.least c.attend_once.new.reaping) (post g.C.Clock.given g.C.Clock.least c.is_settled.new.reaping) =
    rw c.is_settled.ensures.reaping (looked_once _ _ _ c.is_settled.ensures.launcher c.is_settled.ensures.mine (still-free _ _ e.reaping) c.is_settled.ensures.between) in
    let s : Stands g.S.One.Child.told g.S.One.Child.faults (stage (post g.C.Clock.given g.C.Clock.least c.args.launcher.now) (post g.C.Clock.given g.C.Clock.least c.args.reaping.now) (g.S.Spawner.asked c.args.spawner.now) (g.S.Spawner.fate c.args.spawner.now) c.args.reaper.now.children c.args.reaper.now.order)
    (stage (post g.C.Clock.given g.C.Clock.least c.is_settled.new.launcher) (post g.C.Clock.given g.C.Clock.least c.is_settled.new.reaping) (g.S.Spawner.asked c.attend_once.new.spawner) (g.S.Spawner.fate c.attend_once.new.spawner) c.attend_once.new.reaper.children c.attend_once.new.reaper.order) c.match-attend_once.kept = elim c.match-attend_once.branch [
      | in-Ok w ↦ subst (Stands g.S.One.Child.told g.S.One.Child.faults (stage (post g.C.Clock.given g.C.Clock.least c.args.launcher.now) (post g.C.Clock.given g.C.Clock.least c.args.reaping.now) (g.S.Spawner.asked c.args.spawner.now) (g.S.Spawner.fate c.args.spawner.now) c.args.reaper.now.children c.args.reaper.now.order)
          (stage (post g.C.Clock.given g.C.Clock.least c.is_settled.new.launcher) (post g.C.Clock.given g.C.Clock.least c.is_settled.new.reaping) (g.S.Spawner.asked c.attend_once.new.spawner) (g.S.Spawner.fate c.attend_once.new.spawner) c.attend_once.new.reaper.children c.attend_once.new.reaper.order)) (sym w.kept-is)
          (stands_on g.S.One.Child.told g.S.One.Child.faults _ _ _ _ _ _ _ _ _ _ c.loop.kept i.rounds w.in-Ok.ensures.served e.launcher e.reaping look)
      | in-Err w ↦ subst (Stands g.S.One.Child.told g.S.One.Child.faults (stage (post g.C.Clock.given g.C.Clock.least c.args.launcher.now) (post g.C.Clock.given g.C.Clock.least c.args.reaping.now) (g.S.Spawner.asked c.args.spawner.now) (g.S.Spawner.fate c.args.spawner.now) c.args.reaper.now.children c.args.reaper.now.order)
          (stage (post g.C.Clock.given g.C.Clock.least c.is_settled.new.launcher) (post g.C.Clock.given g.C.Clock.least c.is_settled.new.reaping) (g.S.Spawner.asked c.attend_once.new.spawner) (g.S.Spawner.fate c.attend_once.new.spawner) c.attend_once.new.reaper.children c.attend_once.new.reaper.order)) (sym (w.kept-is ∙ w.first_of-kept.ensures))
          (stands_refused g.S.One.Child.told g.S.One.Child.faults _ _ _ _ _ _ _ _ _ _ c.loop.kept w.in-Err.why i.rounds w.in-Err.ensures.refused e.launcher e.reaping look)
    ] in
    ends_ok g.S.One.Child.told g.S.One.Child.faults _ _ _ c.in_default.is s

pub loop-preserved : goal.loop-preserved
loop-preserved g c =
    let i = c.loop.invariant in
    let e = c.attend_once.ensures in
    let s : Looked (post g.C.Clock.given g.C.Clock.least c.attend_once.new.launcher) (post g.C.Clock.given g.C.Clock.least c.if-over.launcher) (post g.C.Clock.given g.C.Clock.least c.attend_once.new.reaping) (post g.C.Clock.given g.C.Clock.least c.if-over.reaping) = elim c.if-over.branch [
      | then-over+in_default+else-is_settled w ↦ rw (w.launcher-is, w.reaping-is, w.is_settled.ensures.reaping) (looked_once _ _ _ w.is_settled.ensures.launcher w.is_settled.ensures.mine (still-free _ _ e.reaping) w.is_settled.ensures.between)
      | else-over w ↦ rw (w.launcher-is, w.reaping-is) (looked_none _ _ (still-free _ _ e.launcher) (still-free _ _ e.reaping))
    ] in
    record {
      launcher = still-both _ _ _ (still-both _ _ _ i.launcher e.launcher) s.launcher;
      reaping = still-both _ _ _ (still-both _ _ _ i.reaping e.reaping) s.reaping;
      attending = rw (s.mine, s.theirs)
          (attending_on g.S.One.Child.told _ _ _ _ _ _ _ _ _ _ _ _ _ _ _ _ _ _ (c.loop.kept ≡ None) (IsOk c.attend_once.result) (c.match-attend_once.kept ≡ None)
          (λ none. elim c.match-attend_once.branch [ in-Ok w ↦ sym w.kept-is ∙ none | in-Err w ↦ absurd (first_is_some _ _ (sym w.kept-is ∙ none) w.first_of-kept.ensures) ])
          (λ none. elim c.match-attend_once.branch [ in-Ok w ↦ subst IsOk (sym w.in-Ok.is) refl | in-Err w ↦ absurd (first_is_some _ _ (sym w.kept-is ∙ none) w.first_of-kept.ensures) ])
          i.attending e.attending);
      held = IfSome_then c.match-attend_once.kept (let h : IfSome c.match-attend_once.kept (IsHeldUp (post g.C.Clock.given g.C.Clock.least c.args.launcher.now) (post g.C.Clock.given g.C.Clock.least c.attend_once.new.launcher) (post g.C.Clock.given g.C.Clock.least c.args.reaping.now) (post g.C.Clock.given g.C.Clock.least c.attend_once.new.reaping)
          (Tends (own_acts c.args.launcher.now.client) (own_acts c.args.reaping.now.client) (get c.args.reaper.now.children) c.args.reaper.now.order)) = elim c.match-attend_once.branch [
            | in-Ok w ↦ kept_some c.loop.kept c.match-attend_once.kept _ _ w.kept-is (λ why. held_on _ _ _ _ _ _ _ why e.launcher e.reaping) i.held
            | in-Err w ↦ first_some c.loop.kept c.match-attend_once.kept w.in-Err.why _ _ (w.kept-is ∙ w.first_of-kept.ensures) (λ why. held_on _ _ _ _ _ _ _ why e.launcher e.reaping) i.held
                (held_from _ _ _ _ _ _ _ _ _ i.launcher i.reaping i.attending.tends w.in-Err.ensures.err)
          ] in h) (λ why h. held_on _ _ _ _ _ _ _ why s.launcher s.reaping h);
      rounds = elim c.match-attend_once.branch [
        | in-Ok w ↦ subst (Stands g.S.One.Child.told g.S.One.Child.faults (stage (post g.C.Clock.given g.C.Clock.least c.args.launcher.now) (post g.C.Clock.given g.C.Clock.least c.args.reaping.now) (g.S.Spawner.asked c.args.spawner.now) (g.S.Spawner.fate c.args.spawner.now) c.args.reaper.now.children c.args.reaper.now.order)
            (stage (post g.C.Clock.given g.C.Clock.least c.if-over.launcher) (post g.C.Clock.given g.C.Clock.least c.if-over.reaping) (g.S.Spawner.asked c.attend_once.new.spawner) (g.S.Spawner.fate c.attend_once.new.spawner) c.attend_once.new.reaper.children c.attend_once.new.reaper.order)) (sym w.kept-is)
            (stands_on g.S.One.Child.told g.S.One.Child.faults _ _ _ _ _ _ _ _ _ _ c.loop.kept i.rounds w.in-Ok.ensures.served e.launcher e.reaping s)
        | in-Err w ↦ subst (Stands g.S.One.Child.told g.S.One.Child.faults (stage (post g.C.Clock.given g.C.Clock.least c.args.launcher.now) (post g.C.Clock.given g.C.Clock.least c.args.reaping.now) (g.S.Spawner.asked c.args.spawner.now) (g.S.Spawner.fate c.args.spawner.now) c.args.reaper.now.children c.args.reaper.now.order)
            (stage (post g.C.Clock.given g.C.Clock.least c.if-over.launcher) (post g.C.Clock.given g.C.Clock.least c.if-over.reaping) (g.S.Spawner.asked c.attend_once.new.spawner) (g.S.Spawner.fate c.attend_once.new.spawner) c.attend_once.new.reaper.children c.attend_once.new.reaper.order)) (sym (w.kept-is ∙ w.first_of-kept.ensures))
            (stands_refused g.S.One.Child.told g.S.One.Child.faults _ _ _ _ _ _ _ _ _ _ c.loop.kept w.in-Err.why i.rounds w.in-Err.ensures.refused e.launcher e.reaping s)
      ];
    }
