-- Filters: each item that is set stands behind its key, in one order. Our profile.
use Rattle.std.specs.Prelude.{ℕ, ◌^◌, List, Option, codes}
use Rattle.drmaa_types.specs.declared.identifiers.JobId.{JobId}
use Rattle.drmaa_types.specs.declared.states.JobState.{JobState}
use Rattle.drmaa_types.specs.declared.filters.JobFilter.{JobFilter}
use Rattle.text_codec.specs.Formats.{number, moment}
use Rattle.text_codec.specs.Fields.{Fields, field, no_more}
use Rattle.text_codec.specs.Quotes.{text}
use Rattle.text_codec.specs.Numbers.{job_id}
use Rattle.text_codec.specs.ValueWords.{state_form}

-- the items of a filter, in two groups, the last one first
abbrev pub Sought : Type 0
Sought = Option ℕ × (Option ℕ × (Option ℕ × (Option ℕ × (Option ℕ × Unit {0}))))

unfoldable pub sought_fields : Fields Sought
sought_fields =
    field (codes " status=") (number (2 ^ 8)) (
    field (codes " wallclock=") (number (2 ^ 64)) (
    field (codes " submitted=") moment (
    field (codes " dispatched=") moment (
    field (codes " finished=") moment no_more))))

abbrev pub Filters : Type 0
Filters = Option JobId × (Option (List ℕ) × (Option JobState × (Option ℕ × (Option (List ℕ) × Sought))))

unfoldable pub filter_fields : Fields Filters
filter_fields =
    field (codes " id=") job_id (
    field (codes " name=") text (
    field (codes " state=") state_form (
    field (codes " slots=") (number (2 ^ 32)) (
    field (codes " queue=") text sought_fields))))

abbrev pub sought_parts : JobFilter → Sought
sought_parts f = (f.status, (f.wallclock, (f.submitted, (f.dispatched, (f.finished, tt)))))

abbrev pub filter_parts : JobFilter → Filters
filter_parts f = (f.job, (f.name, (f.state, (f.slots, (f.queue, sought_parts f)))))

abbrev pub make_filter : Filters → JobFilter
make_filter p =
    let sought = p.1.1.1.1.1 in
    record {
      job = p.0;
      name = p.1.0;
      state = p.1.1.0;
      slots = p.1.1.1.0;
      queue = p.1.1.1.1.0;
      status = sought.0;
      wallclock = sought.1.0;
      submitted = sought.1.1.0;
      dispatched = sought.1.1.1.0;
      finished = sought.1.1.1.1.0;
    }
