-- The rows of an array, one member after another.
use Rattle.std.proofs.Common.{◌≡◌, ℕ, suc, ◌+◌, ◌-◌, ◌*◌, ◌<◌, ◌≤◌, List, [], ◌∷◌, ◌++◌, rules, sym, ◌∙◌, ap, arith, append_assoc}
use Rattle.std.proofs.lemmas.List.Sums.{sum_by-cons}
use Rattle.drmaa_types.specs.declared.queues.QueueSpec.{QueueSpec}
use Rattle.job_template.specs.declared.templates.JobTemplate.{JobTemplate}
use Rattle.job_template.specs.Expand.{expanded}
use Rattle.job_template.specs.Texts.{text_length}
use Rattle.drmaa_model.specs.declared.calls.Indices.{Indices}
use Rattle.drmaa_model.specs.declared.rows.Row.{Row}
use Rattle.drmaa_model.specs.Submitting.{Member, new_text}
use Rattle.scheduler_core.specs.declared.batches.Batch.{Batch}
use Rattle.scheduler_core.specs.Batches.{batch_row, batch_rows, batch_member, members_from}

-- the index of the member in a place
abbrev pub index_in : Indices → ℕ → ℕ
index_in i place = i.begin + place * i.step

-- the members from a place on
abbrev pub left_from : Batch → JobTemplate → Indices → ℕ → ℕ → List Member
left_from b t i count place = members_from b t i (index_in i place) (count - place)

pub left-more : (b : Batch) (t : JobTemplate) (i : Indices) (count place : ℕ) → place < count
    → left_from b t i count place ≡ batch_member b t i (index_in i place) ∷ left_from b t i count (place + 1)
left-more b t i count place less =
    let one : count - place ≡ suc (count - (place + 1)) = omega arith in
    let next : index_in i place + i.step ≡ index_in i (place + 1) = search rules in
    ap (λ (k : ℕ). members_from b t i (index_in i place) k) one
    ∙ ap (λ (x : ℕ). batch_member b t i (index_in i place) ∷ members_from b t i x (count - (place + 1))) next

pub rows-more : (qs : List QueueSpec) (b : Batch) (t : JobTemplate) (i : Indices) (count place : ℕ) (rows pushed whole : List Row) → place < count
    → pushed ≡ rows ++ batch_row qs b (b.first + place) (batch_member b t i (index_in i place)) ∷ []
    → rows ++ batch_rows qs b (b.first + place) (left_from b t i count place) ≡ whole
    → pushed ++ batch_rows qs b (b.first + (place + 1)) (left_from b t i count (place + 1)) ≡ whole
rows-more qs b t i count place rows pushed whole less is all =
    let row = batch_row qs b (b.first + place) (batch_member b t i (index_in i place)) in
    let left = left_from b t i count (place + 1) in
    let number : b.first + (place + 1) ≡ b.first + place + 1 = omega arith in
    ap (λ (xs : List Row). xs ++ batch_rows qs b (b.first + (place + 1)) left) is
    ∙ ap (λ (n : ℕ). (rows ++ row ∷ []) ++ batch_rows qs b n left) number
    ∙ append_assoc rows (row ∷ []) (batch_rows qs b (b.first + place + 1) left)
    ∙ ap (λ (ms : List Member). rows ++ batch_rows qs b (b.first + place) ms) (sym (left-more b t i count place less))
    ∙ all

pub text-more : (b : Batch) (t : JobTemplate) (i : Indices) (count place : ℕ) → place < count
    → new_text (left_from b t i count place) ≡ text_length (expanded (index_in i place) t) + new_text (left_from b t i count (place + 1))
text-more b t i count place less =
    ap new_text (left-more b t i count place less)
    ∙ sum_by-cons (λ (m : Member). text_length m.template) (batch_member b t i (index_in i place)) (left_from b t i count (place + 1))

-- what the room has to do with the text of all members, where those up to a place are made
pub text-over : (qs : List QueueSpec) (b : Batch) (t : JobTemplate) (i : Indices) (count place room full whole : ℕ) (row : Row) → place < count
    → row ≡ batch_row qs b (b.first + place) (batch_member b t i (index_in i place)) → ¬ (text_length row.template ≤ room)
    → room + whole ≡ full + new_text (left_from b t i count place) → full < whole
text-over qs b t i count place room full whole row less is over sum =
    let size = ap (λ (r : Row). text_length r.template) is in
    let more = text-more b t i count place less in
    omega (arith, size, more)

pub text-left : (qs : List QueueSpec) (b : Batch) (t : JobTemplate) (i : Indices) (count place room left full whole : ℕ) (row : Row) → place < count
    → row ≡ batch_row qs b (b.first + place) (batch_member b t i (index_in i place)) → (text_length row.template ≤ room) × (left ≡ room - text_length row.template)
    → room + whole ≡ full + new_text (left_from b t i count place) → left + whole ≡ full + new_text (left_from b t i count (place + 1))
text-left qs b t i count place room left full whole row less is fits sum =
    let size = ap (λ (r : Row). text_length r.template) is in
    let more = text-more b t i count place less in
    let within = fits.0 in
    let rest = fits.1 in
    omega (arith, size, more, within, rest)
