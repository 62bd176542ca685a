-- Laws of the words for known bytes.
use Rattle.std.specs.Prelude.{◌≡◌, ℕ, ◌+◌, ◌-◌, ◌<◌, ◌≤◌, false, List, [], ◌++◌, length, take, drop, Option, Some, None, Result, Ok, Err, IfSome, OnErr}
use Rattle.std.proofs.Common.{sym, ap, subst, ◌∙◌, refl, arith}
use Rattle.std.proofs.Math.Seq.{take-append-add}
use Rattle.std.proofs.lemmas.List.{append-nil, append_assoc, length-append, length-take-le, take-append-drop, take-append-le, take-take, take_rest, drop-take}
use Rattle.std.specs.Io.KnownBytes.{Keeps, Appends, Consumes}
use Rattle.byte_streams.specs.Streams.{ReadsUpTo, AppendsFront}

pub appends-nil : (a : Option (List ℕ)) → Appends a a []
appends-nil None = tt
appends-nil (Some x) = sym (append-nil x)

pub appends-trans : (a b c : Option (List ℕ)) (bs cs : List ℕ) → Appends a b bs → Appends b c cs → Appends a c (bs ++ cs)
appends-trans None b c bs cs p q = tt
appends-trans (Some x) None c bs cs p q = absurd p
appends-trans (Some x) (Some y) None bs cs p q = absurd q
appends-trans (Some x) (Some y) (Some z) bs cs p q = q ∙ ap (λ l. l ++ cs) p ∙ append_assoc x bs cs

pub appends-keeps : (a b c : Option (List ℕ)) (bs : List ℕ) → Appends a b bs → Keeps b c → Appends a c bs
appends-keeps None b c bs p q = tt
appends-keeps (Some x) None c bs p q = absurd p
appends-keeps (Some x) (Some y) None bs p q = absurd q
appends-keeps (Some x) (Some y) (Some z) bs p q = q ∙ p

pub consumes-nil : (a : Option (List ℕ)) → Consumes a a []
consumes-nil None = tt
consumes-nil (Some x) = refl

pub consumes-trans : (a b c : Option (List ℕ)) (bs cs : List ℕ) → Consumes a b bs → Consumes b c cs → Consumes a c (bs ++ cs)
consumes-trans None b c bs cs p q = tt
consumes-trans (Some x) None c bs cs p q = absurd p
consumes-trans (Some x) (Some y) None bs cs p q = absurd q
consumes-trans (Some x) (Some y) (Some z) bs cs p q = p ∙ ap (λ l. bs ++ l) q ∙ sym (append_assoc bs cs z)

-- a front, and the first bytes of what is left of the list, are a longer front
pub take-part : (i n : ℕ) (xs : List ℕ) → take i xs ++ take n (take (length xs - i) (drop i xs)) ≡ take (i + n) xs
take-part i n xs =
    let below : i ≤ i + n = omega arith in
    let parts : take i (take (i + n) xs) ++ drop i (take (i + n) xs) ≡ take (i + n) xs = take-append-drop i (take (i + n) xs) in
    rw take_rest (rw (take-take, drop-take) at parts)

-- where a piece passes the limit, the bytes so far with the front of that piece are the first ones of all
pub first-up-to : (bytes piece rest : List ℕ) (room n : ℕ) → room < n → n ≤ length piece →
    (bytes ++ take room piece ≡ take (length bytes + room) (bytes ++ (take n piece ++ rest)))
    × (length bytes + room < length (bytes ++ (take n piece ++ rest)))
first-up-to bytes piece rest room n passes fits =
    let within : room ≤ n = omega arith in
    let taken : length (take n piece) ≡ n = length-take-le n piece fits in
    let room_fits : room ≤ length (take n piece) = omega arith in (
      sym (take-append-add bytes (take n piece ++ rest) room ∙ ap (λ l. bytes ++ l) (take-append-le room (take n piece) rest room_fits ∙ take-take room n piece within)),
      omega (arith, length-append bytes (take n piece ++ rest), length-append (take n piece) rest),
    )

pub read-over : (a b c : Option (List ℕ)) (bytes more piece : List ℕ) (limit n len : ℕ) → length bytes ≡ len → len ≤ limit → limit - len < n → n ≤ length piece →
    Consumes a b bytes → Consumes b c (take n piece) → more ≡ bytes ++ take (limit - len) piece → IfSome a (λ all. ReadsUpTo limit all more false)
read-over None b c bytes more piece limit n len counted within passes fits p q added = tt
read-over (Some all) None c bytes more piece limit n len counted within passes fits p q added = absurd p
read-over (Some all) (Some y) None bytes more piece limit n len counted within passes fits p q added = absurd q
read-over (Some all) (Some y) (Some z) bytes more piece limit n len counted within passes fits p q added =
    let whole : all ≡ bytes ++ (take n piece ++ z) = p ∙ ap (λ l. bytes ++ l) q in
    let parts = first-up-to bytes piece z (limit - len) n passes fits in
    let up_to : length bytes + (limit - len) ≡ limit = omega arith in
    let P : ℕ → List ℕ → Type 0 = λ m l. (bytes ++ take (limit - len) piece ≡ take m l) × (m < length l) in
    let at_limit : P limit (bytes ++ (take n piece ++ z)) = subst (λ m. P m (bytes ++ (take n piece ++ z))) up_to parts in
    let facts : P limit all = subst (λ l. P limit l) (sym whole) at_limit in
    (added ∙ facts.0, facts.1)

pub on-err : {T E : Type 0} (r : Result T E) (P : Type 0) → P → OnErr r P
on-err (Ok x) P p = tt
on-err (Err e) P p = p

-- a front of the bytes was added, and then nothing more
pub appends-front : (a b c : Option (List ℕ)) (bytes : List ℕ) (n : ℕ) → Appends a b (take n bytes) → Keeps b c → AppendsFront a c bytes
appends-front a b c bytes n added kept =
    record { front = take n bytes; rest = drop n bytes; whole = sym (take-append-drop n bytes); added = appends-keeps a b c (take n bytes) added kept }
