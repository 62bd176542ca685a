-- Laws of histories: beginnings of one list, a caller's entries in them, and empty places.
use Rattle.std.proofs.Common.{◌≡◌, ◌≢◌, ◌⊎◌, inl, inr, ℕ, zero, suc, ◌<◌, ◌≤◌, Bool, true, false, cond, eqb, eq-eqb, ne_eqb, List, [], ◌∷◌, ◌++◌, length, get_or, set, refl, sym, ap, ◌∙◌, subst, arith, append_assoc, append-nil, length-append}
use Rattle.std.specs.Prelude.{Option, Some, None, nat_le}
use Rattle.std.proofs.lemmas.Bool.Decides.{nat_tests}
use Rattle.std.proofs.lemmas.List.Elements.{filter-append}
use Rattle.drmaa_types.specs.declared.chronicles.ChronicleEntry.{ChronicleEntry}
use Rattle.turn_lock.specs.Histories.{of, BeginsWith, longer, left_of}

module _ {A : Type 0} where
  pub begins_refl : (list : List A) → BeginsWith list list
  begins_refl list = record { rest = []; whole = sym (append-nil list) }

  pub begins_empty : (list : List A) → BeginsWith list []
  begins_empty list = record { rest = list; whole = refl }

  pub begins_append : (list more : List A) → BeginsWith (list ++ more) list
  begins_append list more = record { rest = more; whole = refl }

  pub begins_trans : (a b c : List A) → BeginsWith a b → BeginsWith b c → BeginsWith a c
  begins_trans a b c p q = record { rest = q.rest ++ p.rest; whole = p.whole ∙ (ap (λ (x : List A). x ++ p.rest) q.whole ∙ append_assoc c q.rest p.rest) }

  pub begins_along : (a b c d : List A) → a ≡ b → c ≡ d → BeginsWith a c → BeginsWith b d
  begins_along a b c d e f p = subst (λ (x : List A). BeginsWith x d) e (subst (λ (y : List A). BeginsWith a y) f p)

  shorter_of : (a b r q : List A) → a ++ r ≡ b ++ q → length b ≤ length a → BeginsWith a b
  shorter_of a [] r q e le = record { rest = a; whole = refl }
  shorter_of [] (y ∷ b) r q e le = absurd (omega arith)
  shorter_of (x ∷ a) (y ∷ b) r q e le =
      let tails : a ++ r ≡ b ++ q = cc e in
      let head : x ≡ y = cc e in
      let t = shorter_of a b r q tails (omega arith) in
      record { rest = t.rest; whole = λ k. head k ∷ t.whole k }

  -- of two beginnings of one list, the longer begins with the shorter
  pub shorter : (h a b : List A) → BeginsWith h a → BeginsWith h b → length b ≤ length a → BeginsWith a b
  shorter h a b p q le = shorter_of a b p.rest q.rest (sym p.whole ∙ q.whole) le

  -- a beginning of a list with one more at its end is one of the list without it, or the whole
  pub beginning_of : (h : List A) (e : A) (start rest : List A) → h ++ e ∷ [] ≡ start ++ rest → BeginsWith h start ⊎ (start ≡ h ++ e ∷ [])
  beginning_of h e start [] is = inr (sym (append-nil start) ∙ sym is)
  beginning_of h e start (r ∷ rest) is =
      inl (shorter (h ++ e ∷ []) h start (begins_append h (e ∷ [])) record { rest = r ∷ rest; whole = is } (omega (arith, ap length is, length-append h (e ∷ []), length-append start (r ∷ rest))))

  pub record Joined (h a b : List A) : Type 0 where
    pub whole : BeginsWith h (longer a b)
    pub one : BeginsWith (longer a b) a
    pub other : BeginsWith (longer a b) b

  joined_as : (h a b : List A) → BeginsWith h a → BeginsWith h b → (c : Bool) → nat_le (length b) (length a) ≡ c → BeginsWith h (cond c a b) × BeginsWith (cond c a b) a × BeginsWith (cond c a b) b
  joined_as h a b p q true e = (p, begins_refl a, shorter h a b p q (grind (arith, nat_tests)))
  joined_as h a b p q false e = (q, shorter h b a q p (grind (arith, nat_tests)), begins_refl b)

  pub joined : (h a b : List A) → BeginsWith h a → BeginsWith h b → Joined h a b
  joined h a b p q = let t = joined_as h a b p q (nat_le (length b) (length a)) refl in record { whole = t.0; one = t.1; other = t.2 }

  pub append_none : (m p q : List A) → (m ++ p) ++ q ≡ m → p ≡ []
  append_none m [] q e = refl
  append_none m (x ∷ p) q e = absurd (omega (arith, ap length e, length-append (m ++ x ∷ p) q, length-append m (x ∷ p)))

  pub cancel : (m p q : List A) → m ++ p ≡ m ++ q → p ≡ q
  cancel [] p q e = e
  cancel (x ∷ m) p q e = cancel m p q (cc e)

  -- empty places
  pub left_of-append : (places : List (Option A)) → left_of (places ++ None ∷ []) ≡ suc (left_of places)
  left_of-append [] = refl
  left_of-append (None ∷ places) = ap suc (left_of-append places)
  left_of-append (Some a ∷ places) = left_of-append places

  pub left_of-set : (places : List (Option A)) (n : ℕ) (a : A) → n < length places → get_or places n None ≡ None → suc (left_of (set places n (Some a))) ≡ left_of places
  left_of-set [] n a h e = absurd (omega arith)
  left_of-set (None ∷ places) zero a h e = refl
  left_of-set (Some b ∷ places) zero a h e = absurd (cc e)
  left_of-set (None ∷ places) (suc n) a h e = ap suc (left_of-set places n a (omega arith) e)
  left_of-set (Some b ∷ places) (suc n) a h e = left_of-set places n a (omega arith) e

  pub left_of-le : (places : List (Option A)) → left_of places ≤ length places
  left_of-le [] = omega arith
  left_of-le (None ∷ places) = let r = left_of-le places in omega arith
  left_of-le (Some a ∷ places) = let r = left_of-le places in omega arith

  -- a place that was filled, where the count fell, was empty
  pub record WasEmpty (places : List (Option A)) (n : ℕ) : Type 0 where
    pub within : n < length places
    pub empty : get_or places n None ≡ None

  pub was_empty : (places : List (Option A)) (n : ℕ) (a : A) → left_of (set places n (Some a)) < left_of places → WasEmpty places n
  was_empty [] n a h = absurd (omega arith)
  was_empty (None ∷ places) zero a h = record { within = omega arith; empty = refl }
  was_empty (Some b ∷ places) zero a h = absurd (omega arith)
  was_empty (None ∷ places) (suc n) a h = let r = was_empty places n a (omega arith) in let w = r.within in record { within = omega arith; empty = r.empty }
  was_empty (Some b ∷ places) (suc n) a h = let r = was_empty places n a (omega arith) in let w = r.within in record { within = omega arith; empty = r.empty }

  pub none_left : (places : List (Option A)) (n : ℕ) → n < length places → left_of places ≡ 0 → get_or places n None ≡ None → ⊥
  none_left [] n h e f = omega arith
  none_left (None ∷ places) n h e f = omega arith
  none_left (Some a ∷ places) zero h e f = cc f
  none_left (Some a ∷ places) (suc n) h e f = none_left places n (omega arith) e f

module _ {Ask Answer : Type 0} where
  pub of-append : (xs ys : List (ChronicleEntry Ask Answer)) (n : ℕ) → of (xs ++ ys) n ≡ of xs n ++ of ys n
  of-append xs ys n = filter-append (λ (e : ChronicleEntry Ask Answer). eqb e.caller.0 n) xs ys

  pub of-mine : (xs : List (ChronicleEntry Ask Answer)) (e : ChronicleEntry Ask Answer) (n : ℕ) → e.caller.0 ≡ n → of (xs ++ e ∷ []) n ≡ of xs n ++ e ∷ []
  of-mine xs e n is = of-append xs (e ∷ []) n ∙ ap (λ (b : Bool). of xs n ++ cond b (e ∷ []) []) (eq-eqb e.caller.0 n is)

  pub of-other : (xs : List (ChronicleEntry Ask Answer)) (e : ChronicleEntry Ask Answer) (n : ℕ) → e.caller.0 ≢ n → of (xs ++ e ∷ []) n ≡ of xs n
  of-other xs e n differs = of-append xs (e ∷ []) n ∙ (ap (λ (b : Bool). of xs n ++ cond b (e ∷ []) []) (ne_eqb e.caller.0 n differs) ∙ append-nil (of xs n))

  -- a caller's entries in a list between two that have the same
  pub of-between : (low mid high : List (ChronicleEntry Ask Answer)) (n : ℕ) (m : List (ChronicleEntry Ask Answer)) → BeginsWith mid low → BeginsWith high mid → of low n ≡ m → of high n ≡ m → of mid n ≡ m
  of-between low mid high n m p q a b =
      let one : of mid n ≡ m ++ of p.rest n = ap (λ (x : List (ChronicleEntry Ask Answer)). of x n) p.whole ∙ (of-append low p.rest n ∙ ap (λ (x : List (ChronicleEntry Ask Answer)). x ++ of p.rest n) a) in
      let two : of high n ≡ (m ++ of p.rest n) ++ of q.rest n = ap (λ (x : List (ChronicleEntry Ask Answer)). of x n) q.whole ∙ (of-append mid q.rest n ∙ ap (λ (x : List (ChronicleEntry Ask Answer)). x ++ of q.rest n) one) in
      let none : of p.rest n ≡ [] = append_none m (of p.rest n) (of q.rest n) (sym two ∙ b) in
      one ∙ (ap (λ (x : List (ChronicleEntry Ask Answer)). m ++ x) none ∙ append-nil m)

  -- none of a caller's entries are in a beginning of a list that has none
  pub of-none : (mid high : List (ChronicleEntry Ask Answer)) (n : ℕ) → BeginsWith high mid → of high n ≡ [] → of mid n ≡ []
  of-none mid high n q b = of-between [] mid high n [] (begins_empty mid) q refl b

  -- what was added has none of a caller's entries, where the caller's entries are the same before and after
  pub of-added : (low more : List (ChronicleEntry Ask Answer)) (n : ℕ) (m : List (ChronicleEntry Ask Answer)) → of low n ≡ m → of (low ++ more) n ≡ m → of more n ≡ []
  of-added low more n m a b =
      cancel m (of more n) [] (ap (λ (x : List (ChronicleEntry Ask Answer)). x ++ of more n) (sym a) ∙ (sym (of-append low more n) ∙ (b ∙ sym (append-nil m))))
