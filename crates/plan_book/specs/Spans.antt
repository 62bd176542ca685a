-- Between which numbers the members of an array and the jobs of a home stand, as it is kept beside the jobs: our profile.
use Rattle.std.specs.Prelude.{◌≡◌, ℕ, ◌<◌, ◌≤◌, min, max, ◌==◌, List, find, Option, Some}
use Rattle.std.specs.List.{AllByRecursion}
use Rattle.drmaa_types.specs.declared.identifiers.ArrayId.{ArrayId}
use Rattle.drmaa_model.specs.declared.rows.Row.{Row}
use Rattle.drmaa_model.specs.Fit.{IsRising}
use Rattle.plan_book.specs.declared.spans.Span.{Span}
use Rattle.plan_book.specs.declared.spans.SpanList.{SpanList}
use Rattle.plan_book.specs.declared.spans.Spans.{Spans}

abbrev pub span_number : Span → ℕ
span_number span = span.group

-- the spans are in order of the number of their group, an array or a home
abbrev pub IsSorted : SpanList → Type 0
IsSorted spans = IsRising span_number spans.list.items

-- both lists are
pub record AreBothSorted (spans : Spans) : Type 0 where
  pub arrays : IsSorted spans.arrays
  pub homes : IsSorted spans.homes

-- the span of the group
abbrev pub span_of : ℕ → List Span → Option Span
span_of group spans = find (λ (span : Span). span.group == group) spans

-- the group has a span, and the number is in it
pub record IsInSpan (group job : ℕ) (spans : List Span) : Type 0 where
  pub span : Span
  pub found : span_of group spans ≡ Some span
  pub since : span.first ≤ job
  pub until : job ≤ span.last

-- the same, but for groups that may have none
abbrev pub IsWithin : ℕ → ℕ → SpanList → Type 0
IsWithin group job spans = spans.unspanned < group → IsInSpan group job spans.list.items

-- what is within the one is within the other
abbrev pub Keeps : SpanList → SpanList → Type 0
Keeps old new = (group job : ℕ) → IsWithin group job old → IsWithin group job new

-- a member of an array is in its span
abbrev pub IsInArraySpan : SpanList → Row → Type 0
IsInArraySpan arrays row = (array : ArrayId) → row.wants.array ≡ Some array → IsWithin array.0 row.job.0 arrays

-- a job of a home is in its span
abbrev pub IsInHomeSpan : SpanList → Row → Type 0
IsInHomeSpan homes row = (home : ℕ) → row.home ≡ Some home → IsWithin home row.job.0 homes

pub record IsSpanned (spans : Spans) (row : Row) : Type 0 where
  pub array : IsInArraySpan spans.arrays row
  pub home : IsInHomeSpan spans.homes row

-- the spans are those of the jobs
pub record AreSpanned (rows : List Row) (spans : Spans) : Type 0 where
  pub sorted : AreBothSorted spans
  pub members : AllByRecursion (IsSpanned spans) rows

-- the span with one more number
abbrev pub widened : ℕ → Span → Span
widened job span = record { group = span.group; first = min span.first job; last = max span.last job }
