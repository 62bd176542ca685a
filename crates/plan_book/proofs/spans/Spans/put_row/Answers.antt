use Rattle.plan_book.proofs.spans.Spans.put_row.Goals as goal

pub put_in_array-requires : goal.put_in_array-requires
put_in_array-requires c = c.requires.arrays

pub put_in_home-requires : goal.put_in_home-requires
put_in_home-requires c = c.requires.homes

pub returns-clause-sorted : goal.returns-clause-sorted
returns-clause-sorted c = record { arrays = c.put_in_array.ensures.sorted; homes = c.put_in_home.ensures.sorted }

pub returns-clause-member : goal.returns-clause-member
returns-clause-member c = record { array = c.put_in_array.ensures.member; home = c.put_in_home.ensures.member }
