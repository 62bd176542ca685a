use Rattle.std.proofs.Common.{◌≡◌, List, ℕ, sym, subst}
use Rattle.std.specs.Prelude.{IfOk, OnOk}
use Rattle.drmaa_model.specs.declared.configs.Config.{Config}
use Rattle.drmaa_model.specs.declared.entries.Entry.{Entry}
use Rattle.journal_text.specs.Journals.{IsWritable, journal_text}
use Rattle.journal_text.specs.Printing.{IsPrintable}
use Rattle.journal_commands.proofs.Somes.{ok_both, on_both}
use Rattle.script_commands.proofs.plays.journal_of.Goals as goal

-- what holds of a machine and its history holds of what is printed
given : (P : Config → List Entry → Type 0) (a b : Config) (g h : List Entry) → a ≡ b → g ≡ h → P b h → P a g
given P a b g h e f p = subst (λ (x : Config). P x g) (sym e) (subst (λ (y : List Entry). P b y) (sym f) p)

pub returns-clause-writable : goal.returns-clause-writable
returns-clause-writable c =
    let l = c.args.machine.now.ledger in
    let config = c.config.ensures in
    let entries = c.entries.ensures.entries in
    let printable = given IsPrintable c.config.result.now l.config c.entries.result.now l.history config entries c.requires.printable in
    let writable = given (λ a h. OnOk c.journal_bytes.result (IsWritable a h)) l.config c.config.result.now l.history c.entries.result.now (sym config) (sym entries) (c.journal_bytes.ensures.writable printable) in
    on_both c.journal_bytes.result (IsWritable l.config l.history) _ writable c.entries.ensures.legal

pub returns-clause-text : goal.returns-clause-text
returns-clause-text c =
    let l = c.args.machine.now.ledger in
    let config = c.config.ensures in
    let entries = c.entries.ensures.entries in
    let printable = given IsPrintable c.config.result.now l.config c.entries.result.now l.history config entries c.requires.printable in
    given (λ a h. IfOk c.journal_bytes.result (λ (b : List ℕ). b ≡ journal_text a h)) l.config c.config.result.now l.history c.entries.result.now (sym config) (sym entries)
    (ok_both c.journal_bytes.result (IsWritable c.config.result.now c.entries.result.now) (λ (b : List ℕ). b ≡ journal_text c.config.result.now c.entries.result.now) (c.journal_bytes.ensures.writable printable) c.journal_bytes.ensures.written)
