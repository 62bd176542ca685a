use Rattle.std.proofs.Common.{rules, ltb, ℕ, inl, inr, arith}
use Rattle.std.proofs.lemmas.Fn.{always_returns_same}
use Rattle.std.proofs.lemmas.Bool.{cases_lt}
use Rattle.std.proofs.lemmas.Bool.Decides.{nat_tests}
use Rattle.reservation_calendar.proofs.Numbering.{parted_below}
use Rattle.reservation_calendar.proofs.keyed.place_of.Goals as goal

pub returns : goal.returns
returns c p inside at =
    let numbers = c.args.numbers.now in
    let parts = c.partition_point.ensures.partitioned (λ (n : ℕ). ltb n c.args.number) (always_returns_same _ _ _ (λ a r f' called. search rules)) (parted_below numbers c.args.number c.requires.rising) in
    elim (cases_lt p c.partition_point.result) [
      | inl less ↦ absurd (let h = parts.0 p 0 (omega arith) less in grind (arith, nat_tests))
      | inr more ↦ elim (cases_lt c.partition_point.result p) [
        | inl less ↦ absurd (let h = parts.1 c.partition_point.result 0 (omega arith) (omega arith) in let r = c.requires.rising c.partition_point.result p 0 less inside in grind (arith, nat_tests))
        | inr same ↦ omega arith
      ]
    ]
