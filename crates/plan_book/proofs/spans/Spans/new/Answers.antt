use Rattle.plan_book.proofs.spans.Spans.new.Goals as goal

pub returns : goal.returns
returns c = record { sorted = record { arrays = c.new.ensures; homes = c.new-2.ensures }; members = tt }
