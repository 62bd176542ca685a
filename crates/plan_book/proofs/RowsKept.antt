-- Other blocks with the same rows.
use Rattle.std.proofs.Common.{◌≡◌, ◌∙◌, ⊎_elim, ◌<◌, ◌≤◌, ◌+◌, ◌++◌, ℕ, zero, suc, ℤ, true, List, [], ◌∷◌, Option, length, take, set, get_or, get_or-set_other, get_or-set_same, ap, refl, sym, subst, arith}
use Rattle.std.specs.Prelude.{vec_capacity}
use Rattle.std.specs.Global.{Vec}
use Rattle.std.specs.List.{AllByRecursion}
use Rattle.drmaa_model.specs.declared.rows.Row.{Row}
use Rattle.std.proofs.lemmas.Bool.{cases_eq}
use Rattle.drmaa_model.specs.Fit.{IsRising, number_of}
use Rattle.drmaa_model.specs.Submitting.{kept_text}
use Rattle.plan_book.specs.declared.spans.Spans.{Spans}
use Rattle.plan_book.specs.declared.sums.Sums.{Sums}
use Rattle.plan_book.specs.declared.usage.Usage.{Usage}
use Rattle.plan_book.specs.Blocks.{AreBlocks, IsBlock, rows_in}
use Rattle.plan_book.specs.BlockWalks.{front-whole}
use Rattle.plan_book.specs.Open.{IsPriorityBound}
use Rattle.plan_book.specs.Quiet.{block_of}
use Rattle.plan_book.specs.Settled.{is_settled}
use Rattle.plan_book.specs.Spans.{AreSpanned}
use Rattle.plan_book.specs.Sums.{AreRows, AreSums}
use Rattle.plan_book.specs.Usage.{AreUsed}
use Rattle.plan_book.proofs.BlockRows.{block-at, blocks-set}
use Rattle.plan_book.proofs.TextLaws.{same-room}

pub same-rows : (old new : List (Vec Row)) (was now : ℕ) (sums : Sums) (room : Option ℕ) (front : ℕ) (most : ℤ) (spans : Spans) (usage : Usage)
    → AreRows old was sums room front most spans usage → AreBlocks now 0 new → rows_in new ≡ rows_in old → rows_in (take front new) ≡ rows_in (take front old) → length old ≤ length new
    → AreRows new now sums room front most spans usage
same-rows old new was now sums room front most spans usage inv are same first more = record {
  ordered = are;
  totals = subst (λ (rows : List Row). AreSums rows sums) (sym same) inv.totals;
  text = same-room (kept_text (rows_in old)) (kept_text (rows_in new)) room (ap kept_text same) inv.text;
  settled = record { within = omega (arith, inv.settled.within, more); settled = subst (AllByRecursion (λ (row : Row). is_settled row ≡ true)) (sym first) inv.settled.settled };
  greatest = subst (λ (rows : List Row). IsPriorityBound rows most) (sym same) inv.greatest;
  members = subst (λ (rows : List Row). AreSpanned rows spans) (sym same) inv.members;
  used = subst (λ (rows : List Row). AreUsed rows usage) (sym same) inv.used;
}

pub all-kept : (old new : List (Vec Row)) → length new ≡ length old → ((n : ℕ) → rows_in (take n new) ≡ rows_in (take n old)) → rows_in new ≡ rows_in old
all-kept old new same each = sym (front-whole new (length old) (omega (arith, same))) ∙ each (length old) ∙ front-whole old (length old) (omega arith)

-- one block is another with the same rows
pub set-kept : (seat : ℕ) (blocks : List (Vec Row)) (i : ℕ) (b d : Vec Row) → AreBlocks seat 0 blocks → i < length blocks → d ≡ get_or blocks i d → b.items ≡ d.items
    → (seat ≤ i → 64 ≤ vec_capacity d → 64 ≤ vec_capacity b) → AreBlocks seat 0 (set blocks i b)
set-kept seat blocks i b d are within is same grows =
    let was : IsBlock seat (0 + i) d = subst (IsBlock seat (0 + i)) (sym is) (block-at 0 blocks i d are within) in
    blocks-set 0 blocks i b are (record {
      own = subst (AllByRecursion (λ (row : Row). block_of row.job.0 ≡ 0 + i)) (sym same) was.own;
      rising = subst (IsRising number_of) (sym same) was.rising;
      room = λ low. grows (omega (arith, low)) (was.room low);
    })

pub rows-set : (n : ℕ) (blocks : List (Vec Row)) (i : ℕ) (b d : Vec Row) → i < length blocks → d ≡ get_or blocks i d → b.items ≡ d.items → rows_in (take n (set blocks i b)) ≡ rows_in (take n blocks)
rows-set zero blocks i b d within is same = refl
rows-set (suc n) [] i b d within is same = refl
rows-set (suc n) (x ∷ xs) zero b d within is same = ap (λ (rows : List Row). rows ++ rows_in (take n xs)) (same ∙ ap (λ (v : Vec Row). v.items) is)
rows-set (suc n) (x ∷ xs) (suc i) b d within is same = ap (λ (rows : List Row). x.items ++ rows) (rows-set n xs i b d (omega (arith, within)) is same)

-- the blocks between two have room
abbrev pub HaveRoom : ℕ → ℕ → List (Vec Row) → Type 0
HaveRoom from until blocks = (j : ℕ) (d : Vec Row) → from ≤ j → j < until → j < length blocks → 64 ≤ vec_capacity (get_or blocks j d)

pub room-more : (from k : ℕ) (blocks : List (Vec Row)) (b : Vec Row) → HaveRoom from k blocks → k < length blocks → 64 ≤ vec_capacity b → length (set blocks k b) ≡ length blocks → HaveRoom from (k + 1) (set blocks k b)
room-more from k blocks b have within room same = λ j d low high inside.
    ⊎_elim
    (λ (own : j ≡ k). subst (λ (v : Vec Row). 64 ≤ vec_capacity v) (sym (ap (λ (i : ℕ). get_or (set blocks k b) i d) own ∙ get_or-set_same blocks k b d within)) room)
    (λ (other : j ≡ k → ⊥). subst (λ (v : Vec Row). 64 ≤ vec_capacity v) (sym (get_or-set_other blocks k j b d other)) (have j d low (omega (arith, high, other)) (omega (arith, inside, same))))
    (cases_eq j k)

-- where all from one on have room
pub room-all : (seat other k : ℕ) (blocks : List (Vec Row)) → AreBlocks seat k blocks → ((j : ℕ) (d : Vec Row) → other ≤ k + j → j < length blocks → 64 ≤ vec_capacity (get_or blocks j d)) → AreBlocks other k blocks
room-all seat other k [] are have = tt
room-all seat other k (block ∷ blocks) are have = (
  record { own = are.0.own; rising = are.0.rising; room = λ low. have 0 block (omega (arith, low)) (omega arith) },
  room-all seat other (suc k) blocks are.1 (λ j d low within. have (suc j) d (omega (arith, low)) (omega (arith, within))),
)

-- those of the blocks between two that have no rows have no memory
abbrev pub AreGone : ℕ → ℕ → List (Vec Row) → Type 0
AreGone from until blocks = (j : ℕ) (d : Vec Row) → from ≤ j → j < until → j < length blocks → (get_or blocks j d).items ≡ [] → vec_capacity (get_or blocks j d) ≡ 0

pub gone-more : (from k : ℕ) (blocks : List (Vec Row)) (b : Vec Row) → AreGone from k blocks → k < length blocks → (b.items ≡ [] → vec_capacity b ≡ 0) → length (set blocks k b) ≡ length blocks → AreGone from (k + 1) (set blocks k b)
gone-more from k blocks b are within gone same = λ j d low high inside.
    (let Gone : Vec Row → Type 0 = λ v. v.items ≡ [] → vec_capacity v ≡ 0 in
    ⊎_elim
    (λ (own : j ≡ k). subst Gone (sym (ap (λ (i : ℕ). get_or (set blocks k b) i d) own ∙ get_or-set_same blocks k b d within)) gone)
    (λ (other : j ≡ k → ⊥). subst Gone (sym (get_or-set_other blocks k j b d other)) (are j d low (omega (arith, high, other)) (omega (arith, inside, same))))
    (cases_eq j k))
