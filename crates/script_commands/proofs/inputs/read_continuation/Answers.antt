use Rattle.std.proofs.Common.{◌≤◌, length, arith}
use Rattle.std.proofs.lemmas.Option.{IfSome_then}
use Rattle.text_lines.specs.Lines.{whole_lines, unskipped_lines}
use Rattle.journal_commands.specs.FrontLaws.{front_as, own_front, read_as, short_as, refused_at, read_out}
use Rattle.script_commands.proofs.inputs.read_continuation.Goals as goal

pub returns-in-Ok-read_first-clause-spelled : goal.returns-in-Ok-read_first-clause-spelled
returns-in-Ok-read_first-clause-spelled g c =
    let read = c.as_slice.result.now in
    let within = c.in-Ok.ensures.within in
    let len = c.as_slice.ensures.len in
    let few : length read ≤ 268_435_456 = omega arith in
    let text = c.in-Ok-read_first.ensures.found read (own_front 268_435_456 read c.in-Ok.input.whole c.in-Ok-read_first.ensures.whole few) in
    (unskipped_lines (whole_lines text.script_bytes), text.script.spelled.spelled)

pub returns-in-Ok-read_first-clause-found : goal.returns-in-Ok-read_first-clause-found
returns-in-Ok-read_first-clause-found g c =
    IfSome_then (g.R.Source.left c.args.source.now) c.in-Ok.ensures.read (λ all r.
    c.in-Ok-read_first.ensures.found all (front_as 268_435_456 c.in-Ok.input.bytes.items c.as_slice.result.now all c.in-Ok.input.whole c.as_slice.ensures.value r))

pub returns-in-Ok-read_first-clause-only : goal.returns-in-Ok-read_first-clause-only
returns-in-Ok-read_first-clause-only g c =
    IfSome_then (g.R.Source.left c.args.source.now) c.in-Ok.ensures.read (λ all r text t.
    read_as c.in-Ok-read_first.read text (c.in-Ok-read_first.ensures.only all text (front_as 268_435_456 c.in-Ok.input.bytes.items c.as_slice.result.now all c.in-Ok.input.whole c.as_slice.ensures.value r) t))

pub returns-clause-only : goal.returns-clause-only
returns-clause-only g c =
    IfSome_then (g.R.Source.left c.args.source.now) c.in-Ok.ensures.read (λ all r text t.
    short_as c.in-Err-read_first.fault text c.status_of.result c.status_of.ensures (c.in-Err-read_first.ensures.only all text (front_as 268_435_456 c.in-Ok.input.bytes.items c.as_slice.result.now all c.in-Ok.input.whole c.as_slice.ensures.value r) t))

pub returns-clause-line : goal.returns-clause-line
returns-clause-line g c = λ n e.
    IfSome_then (g.R.Source.left c.args.source.now) c.in-Ok.ensures.read (λ all r.
    c.in-Err-read_first.ensures.line all n (front_as 268_435_456 c.in-Ok.input.bytes.items c.as_slice.result.now all c.in-Ok.input.whole c.as_slice.ensures.value r) (refused_at c.in-Err-read_first.fault c.status_of.result n c.status_of.ensures e))

pub returns-clause-read_out : goal.returns-clause-read_out
returns-clause-read_out g c = λ n e.
    read_out 268_435_456 (g.R.Source.left c.args.source.now) _ c.in-Ok.input.bytes.items c.in-Ok.input.whole c.in-Ok.ensures.read c.in-Ok.ensures.end
