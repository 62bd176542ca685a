-- What a line asks that does not wait began at no moment of its own.
use Rattle.std.proofs.Common.{◌≡◌, ℕ, List, [], Some, false, refl, ◌∙◌}
use Rattle.drmaa_model.specs.declared.calls.Call.{Call}
use Rattle.drmaa_model.specs.declared.calls.Call.TheVariants as call
use Rattle.script_lines.specs.declared.lines.Line.{Line}
use Rattle.script_text.specs.declared.scripts.Script.{Script}
use Rattle.script_text.specs.Follows.{is_wait}
use Rattle.script_asks.specs.declared.given.Given.{Given}
use Rattle.script_asks.specs.Asks.{asks}
use Rattle.script_journals.specs.AskedLaws.{asks-own}
use Rattle.script_journals.specs.Calls.{is_waiting}
use Rattle.call_history.specs.Timed.{begun_in}

untimed-call : (c : Call) → is_waiting c ≡ false → begun_in c ≡ []
untimed-call (call.Wait session jobs kind begun timeout) quick = absurd (cc)
untimed-call _ quick = refl

-- a line that does not wait asks a call that began at no moment of its own
pub untimed : (s : Script) (names : List (List ℕ × Given)) (attempt : ℕ → ℕ) (begun : ℕ) (l : Line) (c : Call) → is_wait l ≡ false → asks s names attempt begun l ≡ Some c → begun_in c ≡ []
untimed s names attempt begun l c quick is = untimed-call c ((asks-own s names attempt begun l c is).2 ∙ quick)
