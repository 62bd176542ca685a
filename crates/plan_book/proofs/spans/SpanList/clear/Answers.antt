use Rattle.std.proofs.Common.{sym, subst}
use Rattle.drmaa_model.specs.Fit.{IsRising}
use Rattle.plan_book.specs.Spans.{span_number}
use Rattle.plan_book.proofs.spans.SpanList.clear.Goals as goal

pub returns : goal.returns
returns c = subst (IsRising span_number) (sym c.clear.ensures.items) tt
