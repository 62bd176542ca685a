use Rattle.text_codec.specs.UnitLaws.{if_found, if_only}
use Rattle.text_codec.proofs.escapes.unit_at.Goals as goal

pub returns-clause-found : goal.returns-clause-found
returns-clause-found c = if_found c.args.bytes.now c.unit_by_cases.result c.unit_by_cases.ensures

pub returns-clause-only : goal.returns-clause-only
returns-clause-only c = if_only c.args.bytes.now c.unit_by_cases.result c.unit_by_cases.ensures
