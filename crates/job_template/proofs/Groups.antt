-- Tables of refusals whose rows stand in groups.
use Rattle.std.proofs.Common.{◌≡◌, Bool, List, ◌++◌, Some, None, Err, ap, ◌∙◌}
use Rattle.drmaa_types.specs.Refusals.{first_refusal, refused_or}
use Rattle.drmaa_types.specs.RefusalLaws.{refused_first, passed_first}
use Rattle.drmaa_types.specs.declared.refusals.Refusal.{Refusal}

-- a table of which neither group refuses; one of which the second refuses
pub passed_both : (ts us : List (Bool × Refusal)) → first_refusal ts ≡ None → first_refusal us ≡ None → first_refusal (ts ++ us) ≡ None
passed_both ts us h k = passed_first ts us h ∙ k

pub refused_second : (ts us : List (Bool × Refusal)) (why : Refusal) → first_refusal ts ≡ None → first_refusal us ≡ Some why → first_refusal (ts ++ us) ≡ Some why
refused_second ts us why h k = passed_first ts us h ∙ k

module _ {X : Type 0} (a b c d e : List (Bool × Refusal)) (x : X) (why : Refusal) where
  -- the first, second, third or fourth group refuses where those before it do not
  pub refused_1 : first_refusal a ≡ Some why → refused_or (first_refusal (a ++ b ++ c ++ d ++ e)) x ≡ Err why
  refused_1 h = ap (λ o. refused_or o x)
      (refused_first (a ++ b ++ c ++ d) e why (refused_first (a ++ b ++ c) d why (refused_first (a ++ b) c why (refused_first a b why h))))

  pub refused_2 : first_refusal a ≡ None → first_refusal b ≡ Some why → refused_or (first_refusal (a ++ b ++ c ++ d ++ e)) x ≡ Err why
  refused_2 h k = ap (λ o. refused_or o x)
      (refused_first (a ++ b ++ c ++ d) e why (refused_first (a ++ b ++ c) d why (refused_first (a ++ b) c why (refused_second a b why h k))))

  pub refused_3 : first_refusal a ≡ None → first_refusal b ≡ None → first_refusal c ≡ Some why → refused_or (first_refusal (a ++ b ++ c ++ d ++ e)) x ≡ Err why
  refused_3 h k l = ap (λ o. refused_or o x)
      (refused_first (a ++ b ++ c ++ d) e why (refused_first (a ++ b ++ c) d why (refused_second (a ++ b) c why (passed_both a b h k) l)))

  pub refused_4 : first_refusal a ≡ None → first_refusal b ≡ None → first_refusal c ≡ None → first_refusal d ≡ Some why → refused_or (first_refusal (a ++ b ++ c ++ d ++ e)) x ≡ Err why
  refused_4 h k l m = ap (λ o. refused_or o x)
      (refused_first (a ++ b ++ c ++ d) e why (refused_second (a ++ b ++ c) d why (passed_both (a ++ b) c (passed_both a b h k) l) m))

-- the last group decides where those before it do not refuse
pub left_to_5 : {X : Type 0} (a b c d e : List (Bool × Refusal)) (x : X) → first_refusal a ≡ None → first_refusal b ≡ None → first_refusal c ≡ None → first_refusal d ≡ None
    → refused_or (first_refusal (a ++ b ++ c ++ d ++ e)) x ≡ refused_or (first_refusal e) x
left_to_5 a b c d e x h k l m = ap (λ o. refused_or o x)
    (passed_first (a ++ b ++ c ++ d) e (passed_both (a ++ b ++ c) d (passed_both (a ++ b) c (passed_both a b h k) l) m))
