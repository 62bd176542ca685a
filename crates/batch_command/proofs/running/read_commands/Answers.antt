use Rattle.std.proofs.Common.{◌≡◌, List, ℕ, Bool, sym, subst}
use Rattle.std.proofs.lemmas.Option.{IfSome_then}
use Rattle.byte_streams.specs.Streams.{ReadsUpTo}
use Rattle.text_lines.specs.Lines.{IsFront}
use Rattle.command_scripts.specs.Texts.{script_text}
use Rattle.journal_commands.specs.FrontLaws.{front_of, read_as, short_as, refused_at, read_out}
use Rattle.batch_command.proofs.running.read_commands.Goals as goal

front : (bytes read all : List ℕ) (whole : Bool) → read ≡ bytes → ReadsUpTo 16_777_216 all bytes whole → IsFront 16_777_216 all read whole
front bytes read all whole e r = subst (λ b. IsFront 16_777_216 all b whole) (sym e) (front_of 16_777_216 all bytes whole r)

pub returns-in-Ok-write_script-clause-written : goal.returns-in-Ok-write_script-clause-written
returns-in-Ok-write_script-clause-written g c =
    IfSome_then (g.R.Source.left c.args.source.now) c.in-Ok.ensures.read (λ all r.
    c.in-Ok-write_script.ensures.written all (front c.in-Ok.input.bytes.items c.as_slice.result.now all c.in-Ok.input.whole c.as_slice.ensures.value r))

pub returns-in-Ok-write_script-clause-only : goal.returns-in-Ok-write_script-clause-only
returns-in-Ok-write_script-clause-only g c =
    IfSome_then (g.R.Source.left c.args.source.now) c.in-Ok.ensures.read (λ all r batch t.
    read_as c.in-Ok-write_script.script (script_text batch) (c.in-Ok-write_script.ensures.only all batch (front c.in-Ok.input.bytes.items c.as_slice.result.now all c.in-Ok.input.whole c.as_slice.ensures.value r) t))

pub returns-clause-only : goal.returns-clause-only
returns-clause-only g c =
    IfSome_then (g.R.Source.left c.args.source.now) c.in-Ok.ensures.read (λ all r batch t.
    short_as c.in-Err-write_script.fault (script_text batch) c.status_of.result c.status_of.ensures (c.in-Err-write_script.ensures.only all batch (front c.in-Ok.input.bytes.items c.as_slice.result.now all c.in-Ok.input.whole c.as_slice.ensures.value r) t))

pub returns-clause-line : goal.returns-clause-line
returns-clause-line g c = λ n e.
    IfSome_then (g.R.Source.left c.args.source.now) c.in-Ok.ensures.read (λ all r.
    c.in-Err-write_script.ensures.line all n (front c.in-Ok.input.bytes.items c.as_slice.result.now all c.in-Ok.input.whole c.as_slice.ensures.value r) (refused_at c.in-Err-write_script.fault c.status_of.result n c.status_of.ensures e))

pub returns-clause-read_out : goal.returns-clause-read_out
returns-clause-read_out g c = λ n e.
    read_out 16_777_216 (g.R.Source.left c.args.source.now) _ c.in-Ok.input.bytes.items c.in-Ok.input.whole c.in-Ok.ensures.read c.in-Ok.ensures.end
