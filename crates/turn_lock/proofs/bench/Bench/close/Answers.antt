use Rattle.std.proofs.Common.{rules, sym, ◌∙◌, subst, ◌≡◌}
use Rattle.std.specs.Prelude.{Option, IsSome}
use mathlib.Core.Option.{some-injective}
use Rattle.turn_lock.specs.Plays.{HasLeft}
use Rattle.turn_lock.proofs.Serving.{closes}
use Rattle.turn_lock.proofs.bench.Bench.close.Goals as goal

pub unwrap-requires : goal.unwrap-requires
unwrap-requires g c =
    let end = closes g.V.Chronicle.entries g.V.Chronicle.fixed g.V.Chronicle.legal (g.V.Chronicle.fixed c.args.self.table.shared.key.value) c.args.seat.id c.args.seat.me.0 _ _ c.requires.kind c.requires.none_left c.close_with-closed.ensures.values.2 in
    let same = some-injective _ _ (sym end.1 ∙ c.take-value.ensures.value) in
    subst (λ (o : Option g.row.V.Denot). IsSome o) same (search rules)

pub returns : goal.returns
returns g c =
    let end = closes g.V.Chronicle.entries g.V.Chronicle.fixed g.V.Chronicle.legal (g.V.Chronicle.fixed c.args.self.table.shared.key.value) c.args.seat.id c.args.seat.me.0 _ _ c.requires.kind c.requires.none_left c.close_with-closed.ensures.values.2 in
    let same = some-injective _ _ (sym end.1 ∙ c.take-value.ensures.value) in
    let value : end.0 ≡ c.unwrap.result = cc (same, c.unwrap.ensures) in
    subst (λ (v : g.row.V.Denot). HasLeft g.V.Chronicle.entries g.V.Chronicle.fixed g.V.Chronicle.legal (g.V.Chronicle.fixed c.args.self.table.shared.key.value) c.args.seat.me.0 v) value end.2
