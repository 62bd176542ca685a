use Rattle.std.proofs.Common.{◌≡◌, List, ℕ, Bool, sym, subst}
use Rattle.std.proofs.lemmas.Option.{IfSome_then}
use Rattle.byte_streams.specs.Streams.{ReadsUpTo}
use Rattle.text_lines.specs.Lines.{IsFront}
use Rattle.script_advice.specs.WarningTexts.{lint_text}
use Rattle.journal_commands.specs.FrontLaws.{front_of, read_out}
use Rattle.lint_command.proofs.Ended.{made_as, short_as, bad_at, refused_unread, refused_reads, refused_advised, unread_advised, some_always, same_fault, no_text, fault_unread}
use Rattle.lint_command.proofs.running.lint_source.Goals as goal

front : (bytes read all : List ℕ) (whole : Bool) → read ≡ bytes → ReadsUpTo 16_777_216 all bytes whole → IsFront 16_777_216 all read whole
front bytes read all whole e r = subst (λ b. IsFront 16_777_216 all b whole) (sym e) (front_of 16_777_216 all bytes whole r)

pub returns-in-Ok-lint_first-clause-written : goal.returns-in-Ok-lint_first-clause-written
returns-in-Ok-lint_first-clause-written g c =
    IfSome_then (g.R.Source.left c.args.source.now) c.in-Ok.ensures.read (λ all r.
    c.in-Ok-lint_first.ensures.found all (front c.in-Ok.input.bytes.items c.as_slice.result.now all c.in-Ok.input.whole c.as_slice.ensures.value r))

pub returns-in-Ok-lint_first-clause-end : goal.returns-in-Ok-lint_first-clause-end
returns-in-Ok-lint_first-clause-end g c = c.in-Ok.ensures.end c.in-Ok-lint_first.ensures.whole

pub returns-in-Ok-lint_first-clause-only : goal.returns-in-Ok-lint_first-clause-only
returns-in-Ok-lint_first-clause-only g c =
    IfSome_then (g.R.Source.left c.args.source.now) c.in-Ok.ensures.read (λ all r s judged.
    made_as c.in-Ok-lint_first.text (lint_text s)
    (c.in-Ok-lint_first.ensures.only all s (front c.in-Ok.input.bytes.items c.as_slice.result.now all c.in-Ok.input.whole c.as_slice.ensures.value r) judged))

pub returns-in-Err-clause-only : goal.returns-in-Err-clause-only
returns-in-Err-clause-only g c =
    some_always (g.R.Source.left c.args.source.now) _ (λ bytes s judged. same_fault c.plain.result.status c.read_status.result c.plain.ensures.status c.read_status.ensures.either)

pub returns-in-Err-clause-line : goal.returns-in-Err-clause-line
returns-in-Err-clause-line g c = λ n e.
    no_text c.plain.result.status n _ (same_fault c.plain.result.status c.read_status.result c.plain.ensures.status c.read_status.ensures.either) e

pub returns-in-Err-clause-read_out : goal.returns-in-Err-clause-read_out
returns-in-Err-clause-read_out g c = λ n e.
    no_text c.plain.result.status n _ (same_fault c.plain.result.status c.read_status.result c.plain.ensures.status c.read_status.ensures.either) e

pub returns-in-Err-clause-causes : goal.returns-in-Err-clause-causes
returns-in-Err-clause-causes g c =
    fault_unread c.plain.result.status (same_fault c.plain.result.status c.read_status.result c.plain.ensures.status c.read_status.ensures.either)

pub returns-in-Err-clause-advice : goal.returns-in-Err-clause-advice
returns-in-Err-clause-advice g c =
    unread_advised c.plain.result.status c.plain.result.advice (same_fault c.plain.result.status c.read_status.result c.plain.ensures.status c.read_status.ensures.either)
    c.plain.ensures.advice

pub returns-clause-only : goal.returns-clause-only
returns-clause-only g c =
    IfSome_then (g.R.Source.left c.args.source.now) c.in-Ok.ensures.read (λ all r s judged.
    short_as c.in-Err-lint_first.refused (lint_text s) c.refused_as.result.status c.refused_as.ensures.status
    (c.in-Err-lint_first.ensures.only all s (front c.in-Ok.input.bytes.items c.as_slice.result.now all c.in-Ok.input.whole c.as_slice.ensures.value r) judged))

pub returns-clause-line : goal.returns-clause-line
returns-clause-line g c = λ n e.
    IfSome_then (g.R.Source.left c.args.source.now) c.in-Ok.ensures.read (λ all r.
    bad_at all c.in-Err-lint_first.refused c.refused_as.result.status n c.refused_as.ensures.status e
    (c.in-Err-lint_first.ensures.line all (front c.in-Ok.input.bytes.items c.as_slice.result.now all c.in-Ok.input.whole c.as_slice.ensures.value r)))

pub returns-clause-read_out : goal.returns-clause-read_out
returns-clause-read_out g c = λ n e.
    read_out 16_777_216 (g.R.Source.left c.args.source.now) _ c.in-Ok.input.bytes.items c.in-Ok.input.whole c.in-Ok.ensures.read c.in-Ok.ensures.end

pub returns-clause-causes : goal.returns-clause-causes
returns-clause-causes g c = refused_unread c.in-Err-lint_first.refused c.refused_as.result.status c.refused_as.ensures.status

pub returns-clause-fault : goal.returns-clause-fault
returns-clause-fault g c = λ e. refused_reads c.in-Err-lint_first.refused c.refused_as.result.status _ c.refused_as.ensures.status e

pub returns-clause-advice : goal.returns-clause-advice
returns-clause-advice g c =
    refused_advised c.in-Err-lint_first.refused c.refused_as.result.status c.refused_as.result.advice c.refused_as.ensures.status c.refused_as.ensures.advice
    c.in-Err-lint_first.ensures.advice
