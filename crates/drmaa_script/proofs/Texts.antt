-- The journal of a run, as it is printed.
use Rattle.std.proofs.Common.{◌≡◌, ℕ, List, Option, Result, Ok, sym, ap, ◌∙◌, subst}
use Rattle.std.specs.Prelude.{IfOk, OnOk}
use Rattle.std.specs.declared.alloc.AllocError.{AllocError}
use Rattle.child_spawner.specs.declared.fates.Asked.{Asked}
use Rattle.child_spawner.specs.declared.fates.Fate.{Fate}
use Rattle.drmaa_types.specs.Readings.{Readings}
use Rattle.drmaa_model.specs.declared.configs.Config.{Config}
use Rattle.drmaa_model.specs.declared.entries.Entry.{Entry}
use Rattle.script_text.specs.declared.scripts.Script.{Script}
use Rattle.journal_text.specs.Journals.{IsWritable, journal_text}
use Rattle.journal_text.specs.Printing.{IsPrintable}
use Rattle.thread_play.specs.Runs.{HasRun}
use Rattle.drmaa_script.specs.Running.{IsTextOfRun}

-- what holds of one machine and its history holds of those that are the same
moved : (P : Config → List Entry → Type 0) (a b : Config) (g h : List Entry) → a ≡ b → g ≡ h → P b h → P a g
moved P a b g h e f p = subst (λ (x : Config). P x g) (sym e) (subst (λ (y : List Entry). P b y) (sym f) p)

-- the bytes that were printed of a run's machine are the journal of the run
pub printed_run : {C : Type 0} (given : C → Readings) (s : Script) (history : List Entry) (asked asked_after : Option (List Asked)) (fate : ℕ → Fate) (clocks : List C) (full : Option ℕ) (hears : List Entry → Type 0)
    (config : Config) (entries : List Entry) (printed : Result (List ℕ) AllocError) (bytes : List ℕ) (clocks_left : List C) (full_left : Option ℕ)
    → config ≡ s.config → entries ≡ history → IsPrintable s.config history → (IsPrintable config entries → OnOk printed (IsWritable config entries))
    → (IsWritable config entries → IfOk printed (λ b. b ≡ journal_text config entries)) → printed ≡ Ok bytes
    → HasRun given s history asked asked_after fate clocks full → hears history → clocks_left ≡ clocks → full_left ≡ full
    → IsTextOfRun given s bytes asked asked_after fate clocks_left full_left hears
printed_run {C = C} given s history asked asked_after fate clocks full hears config entries printed bytes clocks_left full_left same are printable writable written is run heard c f =
    let can : IsWritable config entries = subst (λ (r : Result (List ℕ) AllocError). OnOk r (IsWritable config entries)) is (writable (moved IsPrintable config s.config entries history same are printable)) in
    let text : bytes ≡ journal_text config entries = subst (λ (r : Result (List ℕ) AllocError). IfOk r (λ (b : List ℕ). b ≡ journal_text config entries)) is (written can) in
    subst (λ (cs : List C). IsTextOfRun given s bytes asked asked_after fate cs full_left hears) (sym c)
    (subst (λ (o : Option ℕ). IsTextOfRun given s bytes asked asked_after fate clocks o hears) (sym f) (record {
      history = history;
      text = text ∙ (ap (λ (k : Config). journal_text k entries) same ∙ ap (λ (es : List Entry). journal_text s.config es) are);
      run = record { readable = moved IsWritable s.config config history entries (sym same) (sym are) can; run = run };
      heard = heard;
    }))
