-- How what a client has seen goes on over two calls.
use Rattle.std.specs.Prelude.{◌≡◌, ℕ, List, [], ◌∷◌, ◌++◌, eqb, Result, Ok, Err, IfOk, IfErr}
use Rattle.std.proofs.Common.{sym, ap, ◌∙◌, append_assoc}
use Rattle.std.proofs.lemmas.List.Elements.{filter-append}
use Rattle.drmaa_model.specs.declared.entries.Entry.{Entry}
use Rattle.drmaa_model.specs.declared.calls.Call.{Call}
use Rattle.drmaa_model.specs.declared.configs.Config.{Config}
use Rattle.drmaa_model.specs.declared.faults.NoEntry.{NoEntry}
use Rattle.drmaa_model.specs.declared.replies.Reply.{Reply}
use Rattle.turn_lock.specs.Histories.{BeginsWith}
use Rattle.turn_lock.proofs.Histories.{begins_refl, begins_trans}
use Rattle.call_history.specs.Callers.{calls_of}
use Rattle.call_history.specs.Calls.{entry_by, IsServed, IsUnserved}
use Rattle.call_history.specs.Clocks.{Dial}
use Rattle.call_history.specs.Clients.{Seat, seen_of, number_of, SeesMore, Makes}

-- what others made in two stretches
pub others-both : (first second : List Entry) (n : ℕ) → calls_of first n ≡ [] → calls_of second n ≡ [] → calls_of (first ++ second) n ≡ []
others-both first second n f s = filter-append (λ (e : Entry). eqb e.caller.0 n) first second ∙ (ap (λ l. l ++ calls_of second n) f ∙ s)

module _ (old mid new : Seat) (more : SeesMore old mid) (same : number_of mid ≡ number_of old) where
  pub more-both : SeesMore mid new → SeesMore old new
  more-both m = record {
    between = more.between ++ m.between;
    seen = m.seen ∙ (ap (λ l. l ++ m.between) more.seen ∙ append_assoc (seen_of old) more.between m.between);
    others = others-both more.between m.between (number_of old) more.others (ap (calls_of m.between) (sym same) ∙ m.others);
    mine = m.mine ∙ more.mine;
  }

  pub makes-both : (entry : Entry) → Makes mid entry new → Makes old entry new
  makes-both entry m = record {
    between = more.between ++ m.between;
    seen = m.seen ∙ ap (λ l. l ++ entry ∷ []) (ap (λ l. l ++ m.between) more.seen ∙ append_assoc (seen_of old) more.between m.between);
    others = others-both more.between m.between (number_of old) more.others (ap (calls_of m.between) (sym same) ∙ m.others);
    mine = m.mine ∙ ap (λ l. l ++ entry ∷ []) more.mine;
  }

-- ---- what was seen is a beginning of what is seen then

pub begins-itself : (es : List Entry) → BeginsWith es es
begins-itself es = begins_refl es

pub begins-both : (old mid new : List Entry) → BeginsWith mid old → BeginsWith new mid → BeginsWith new old
begins-both old mid new first second = begins_trans new mid old second first

pub begins-made : (old new : Seat) (e : Entry) → Makes old e new → BeginsWith (seen_of new) (seen_of old)
begins-made old new e m = record { rest = m.between ++ e ∷ []; whole = m.seen ∙ append_assoc (seen_of old) m.between (e ∷ []) }

pub begins-more : (old new : Seat) → SeesMore old new → BeginsWith (seen_of new) (seen_of old)
begins-more old new m = record { rest = m.between; whole = m.seen }

pub begins-call : (config : Config) (before after : Dial) (old new : Seat) (asked : Call) (result : Result Reply NoEntry)
    → IfOk result (λ reply. IsServed before old asked reply after new) → IfErr result (λ why. IsUnserved config before old asked why after new)
    → BeginsWith (seen_of new) (seen_of old)
begins-call config before after old new asked (Ok reply) good bad = begins-made old new (entry_by (number_of old) good.at asked reply) good.made
begins-call config before after old new asked (Err why) good bad = begins-more old new bad.more
