-- What the machine's answer to the call of an entry makes of the entry.
use Rattle.std.proofs.Common.{◌≡◌, ℕ, ◌<◌, None, sym, ap, subst, ◌∙◌}
use Rattle.drmaa_model.specs.declared.calls.Call.{Call}
use Rattle.drmaa_model.specs.declared.entries.Entry.{Entry}
use Rattle.drmaa_model.specs.declared.replies.Reply.{Reply}
use Rattle.drmaa_model.specs.Effects.{nothing, not_yet}
use Rattle.drmaa_model.specs.History.{Ledger, IsLegal, now_of}
use Rattle.drmaa_model.specs.RecordedCalls.{recorded}
use Rattle.drmaa_model.specs.Steps.{answer, IsStep}
use Rattle.drmaa_model.specs.World.{World}
use Rattle.drmaa_machine.specs.Applying.{served, IsTooLarge}
use Rattle.journal_check.specs.declared.steps.Finding.{Finding}
use Rattle.journal_check.specs.declared.steps.Finding.TheVariants as finding
use Rattle.journal_check.specs.Faults.{IsFault}
use Rattle.journal_check.specs.FaultLaws.{other_reply, waits, finds_nothing, too_large}
use Rattle.journal_check.specs.Findings.{Finds, Compares}

-- the entry that the machine makes of the call
abbrev pub made : Entry → Reply → Entry
made entry own = record { caller = entry.caller; at = entry.at; call = recorded entry.call; reply = own }

-- it differs from the entry in no more than the reply
made_is : (entry : Entry) (own : Reply) → recorded entry.call ≡ entry.call → made entry own ≡ record entry { reply = own }
made_is entry own same = ap (λ (c : Call). record entry { call = c; reply = own }) same

-- an entry was made
pub found : (old new : Ledger) (entry : Entry) (own : Reply) (result : Finding) → recorded entry.call ≡ entry.call
    → IsStep (now_of old) (made entry own) (now_of new) → new ≡ served old (made entry own) → IsLegal new.config new.history
    → Compares entry.reply own result → Finds old entry result new
found old new entry own finding.Step same step serves legal equal = record {
  serves = serves ∙ ap (served old) (made_is entry own same ∙ ap (λ (r : Reply). record entry { reply = r }) equal);
  legal = legal;
}
found old new entry own (finding.Fault given machine) same step serves legal compared =
    let here = subst (λ (e : Entry). IsStep (now_of old) e (now_of new)) (made_is entry own same) step in
    let fault = other_reply (now_of old) entry own (now_of new) here compared.0 in
    subst (λ (r : Reply). IsFault (now_of old) entry r machine) (sym compared.1)
    (subst (IsFault (now_of old) entry entry.reply) (sym compared.2) fault)
found old new entry own finding.OutOfMemory same step serves legal none = absurd none

-- none was made
pub waited : (w : World) (entry : Entry) → recorded entry.call ≡ entry.call → answer w entry.at (recorded entry.call) ≡ not_yet → IsFault w entry entry.reply None
waited w entry same h = waits w entry (ap (answer w entry.at) (sym same) ∙ h)

pub found_nothing : (w : World) (entry : Entry) → recorded entry.call ≡ entry.call → answer w entry.at (recorded entry.call) ≡ nothing → IsFault w entry entry.reply None
found_nothing w entry same h = finds_nothing w entry (ap (answer w entry.at) (sym same) ∙ h)

pub found_full : (w : World) (entry : Entry) (n : ℕ) → recorded entry.call ≡ entry.call → IsTooLarge w entry.at (recorded entry.call) n → IsFault w entry entry.reply None
found_full w entry n same large =
    too_large w entry large.reply large.after (ap (answer w entry.at) (sym same) ∙ large.answered) (subst (λ (m : ℕ). w.config.journal < m) large.size_is large.above)

pub unmade : (old new : Ledger) (entry : Entry) (result : Finding) → result ≡ finding.Fault entry.reply None → IsFault (now_of old) entry entry.reply None → Finds old entry result new
unmade old new entry result told fault = subst (λ (r : Finding). Finds old entry r new) (sym told) fault
