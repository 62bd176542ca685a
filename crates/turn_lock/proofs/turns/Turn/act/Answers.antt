use Rattle.std.proofs.Common.{◌≡◌, List, [], ◌∷◌, ◌++◌, sym, ap, ◌∙◌}
use Rattle.std.specs.Prelude.{Option}
use Rattle.atomic_table.specs.Table.{Me}
use Rattle.drmaa_types.specs.declared.chronicles.ChronicleEntry.{ChronicleEntry}
use Rattle.turn_lock.specs.declared.views.View.{View}
use Rattle.turn_lock.specs.Plays.{in_hand}
use Rattle.turn_lock.specs.Tokens.{Token, Held, entry_of}
use Rattle.turn_lock.proofs.turns.Turn.act.Goals as goal

pub raise-requires-clause-seat : goal.raise-requires-clause-seat
raise-requires-clause-seat g c =
    let at = c.put.ensures.1 in (
      ap (λ (m : Me (Option g.row.V.Denot) (View g.row.V-Ask.Denot g.row.V-Answer.Denot g.row.V-Fixed.Denot)). m.0.kind) at ∙ c.pass.invariant.kind,
      (
        c.args.self.ticket,
        ap (λ (m : Me (Option g.row.V.Denot) (View g.row.V-Ask.Denot g.row.V-Answer.Denot g.row.V-Fixed.Denot)). m.0.stage) at
            ∙ (ap (λ (t : Token g.row.V-Ask.Denot g.row.V-Answer.Denot g.row.V-Fixed.Denot). t.view.stage) c.pass.view_is ∙ c.requires.stage),
      ),
    )

pub raise-requires-clause-adds : goal.raise-requires-clause-adds
raise-requires-clause-adds g c =
    let at = c.put.ensures.1 in
    let e : ChronicleEntry g.row.V-Ask.Denot g.row.V-Answer.Denot = entry_of c.self.inside.number (g.V.Chronicle.kept c.args.ask) c.in-Ok.answer in
    let hand : in_hand g.V.Chronicle.entries c.put.new.seat.me.1 ≡ g.V.Chronicle.entries c.act.new.self = ap (λ (m : Me (Option g.row.V.Denot) (View g.row.V-Ask.Denot g.row.V-Answer.Denot g.row.V-Fixed.Denot)). in_hand g.V.Chronicle.entries m.1) at in
    let value : g.V.Chronicle.entries c.self.inside.value ≡ g.V.Chronicle.entries c.args.self.value = ap (λ (h : Held g.row.V.Denot). g.V.Chronicle.entries h.value) c.self.view_is in
    let seen : c.put.new.seat.me.0.seen ≡ g.V.Chronicle.entries c.args.self.value =
    ap (λ (m : Me (Option g.row.V.Denot) (View g.row.V-Ask.Denot g.row.V-Answer.Denot g.row.V-Fixed.Denot)). m.0.seen) at
    ∙ (ap (λ (t : Token g.row.V-Ask.Denot g.row.V-Answer.Denot g.row.V-Fixed.Denot). t.view.seen) c.pass.view_is ∙ c.requires.seen) in
    let number : c.self.inside.number ≡ c.put.new.seat.me.0.number =
    ap (λ (h : Held g.row.V.Denot). h.number) c.self.view_is
    ∙ (sym c.requires.number ∙ sym (ap (λ (m : Me (Option g.row.V.Denot) (View g.row.V-Ask.Denot g.row.V-Answer.Denot g.row.V-Fixed.Denot)). m.0.number) at
    ∙ ap (λ (t : Token g.row.V-Ask.Denot g.row.V-Answer.Denot g.row.V-Fixed.Denot). t.view.number) c.pass.view_is)) in (
      e,
      hand ∙ (c.in-Ok.ensures.ok ∙ ap (λ (l : List (ChronicleEntry g.row.V-Ask.Denot g.row.V-Answer.Denot)). l ++ e ∷ []) (value ∙ sym seen)),
      number,
    )
