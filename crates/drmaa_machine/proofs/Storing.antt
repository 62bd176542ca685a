-- What every machine keeps, through a call that makes no entry and through one that does.
use Rattle.std.proofs.Common.{◌≡◌, ℕ, ◌+◌, ◌≤◌, List, [], ◌∷◌, ◌++◌, refl, sym, ◌∙◌, ap, subst, arith, length}
use Rattle.std.specs.Prelude.{max, Ok, Err, vec_len, vec_capacity}
use Rattle.drmaa_types.specs.Moments.{greatest}
use Rattle.drmaa_types.specs.declared.identifiers.CallerId.{CallerId}
use Rattle.drmaa_model.specs.declared.calls.Call.{Call}
use Rattle.drmaa_model.specs.declared.configs.Config.{Config}
use Rattle.drmaa_model.specs.declared.entries.Entry.{Entry}
use Rattle.drmaa_model.specs.declared.faults.NoEntry.{NoEntry}
use Rattle.drmaa_model.specs.declared.replies.Reply.{Reply}
use Rattle.drmaa_model.specs.declared.rows.Row.{Row}
use Rattle.drmaa_model.specs.Consistent.{IsConsistent}
use Rattle.drmaa_model.specs.Effects.{gives}
use Rattle.drmaa_model.specs.History.{Ledger, IsLegal, now_of}
use Rattle.drmaa_model.specs.HistoryLaws.{legal-push, replay-step}
use Rattle.drmaa_model.specs.Honoured.{IsOnTime, IsDueInside, honoured-slots}
use Rattle.drmaa_model.specs.NextLaunch.{held}
use Rattle.drmaa_model.specs.Size.{size}
use Rattle.drmaa_model.specs.SizeLaws.{legal-length}
use Rattle.drmaa_model.specs.StepLaws.{advance-consistent, step-consistent, step-moment}
use Rattle.drmaa_model.specs.Steps.{answer, IsStep}
use Rattle.drmaa_model.specs.World.{World}
use Rattle.scheduler_core.specs.Facts.{reports_to_come}
use Rattle.machine_readings.specs.declared.store.Store.{Store}
use Rattle.machine_readings.specs.Stores.{world_of, world_at}
use Rattle.machine_calls.specs.declared.replies.Replies.{Replies}
use Rattle.machine_calls.specs.Serving.{Comes, Keeps, HasPlace}
use Rattle.drmaa_machine.specs.Applies.{Applies, ComesTo, entry_of}
use Rattle.drmaa_machine.specs.Applying.{served}
use Rattle.drmaa_machine.specs.Invariant.{IsMachine, ledger_of}
use Rattle.drmaa_machine.proofs.Comings.{Answered, comes-answered, comes-err, comes-ok}

same-ledger : (c d : Config) (h i : List Entry) → c ≡ d → h ≡ i → ◌≡◌ {A = Ledger} (record { config = c; history = h }) (record { config = d; history = i })
same-ledger c d h i a b =
    ap (λ (x : Config). let l : Ledger = record { config = x; history = h } in l) a ∙ ap (λ (x : List Entry). let l : Ledger = record { config = d; history = x } in l) b

module _ (s : Store) (m : IsMachine s) where
  pub now-consistent : IsConsistent (now_of (ledger_of s))
  now-consistent = subst IsConsistent m.replayed m.store.consistent

  pub now-moment : (now_of (ledger_of s)).plan.moment ≤ greatest
  now-moment = subst (λ (w : World). w.plan.moment ≤ greatest) m.replayed m.moment

  -- the slots of a job whose reservation has them are free
  pub slots-free : (at : ℕ) → at ≤ greatest → (row : Row) → IsOnTime (world_at at s).plan → IsDueInside (world_at at s).plan row
      → held (world_at at s).plan.rows + row.wants.min ≤ (world_at at s).plan.total
  slots-free at coming row time due =
      let now = m.moment in
      let low : max s.core.plan.moment at ≤ greatest = omega (arith, now, coming) in
      honoured-slots (world_at at s).plan row low (advance-consistent (world_of s) at m.store.consistent).fit time due

  -- nothing but memory has changed
  pub machine-same : (t : Store) → Keeps s t → world_of t ≡ world_of s → IsMachine t × (ledger_of t ≡ ledger_of s)
  machine-same t keeps same =
      let ledger : ledger_of t ≡ ledger_of s = same-ledger t.config s.config t.history.items s.history.items keeps.config keeps.items in
      let journal : t.config.journal ≡ s.config.journal = ap (λ (c : Config). c.journal) keeps.config in
      let size_is : size (world_of t) ≡ size (world_of s) = ap size same in
      let reports : reports_to_come t.core.plan.rows ≡ reports_to_come s.core.plan.rows = ap (λ (w : World). reports_to_come w.plan.rows) same in
      let fits = m.store.within in
      let low = m.store.journal in
      let room = m.store.room in
      let len = keeps.len in
      let more = keeps.more in (
        record {
          store = record {
            consistent = subst IsConsistent (sym same) m.store.consistent;
            within = omega (arith, journal, size_is, fits);
            journal = omega (arith, journal, low);
            room = omega (arith, reports, room, len, more);
          };
          legal = subst (λ (l : Ledger). IsLegal l.config l.history) (sym ledger) m.legal;
          replayed = same ∙ m.replayed ∙ sym (ap now_of ledger);
          moment = subst (λ (w : World). w.plan.moment ≤ greatest) (sym same) m.moment;
        },
        ledger,
      )

  module _ (caller : CallerId) (at : ℕ) (asked : Call) where
    -- a call that makes no entry
    pub applies-err : (t : Store) (e : NoEntry) → Keeps s t → at ≤ greatest → Comes (world_of s) at asked (Err e) (world_of t) → IsMachine t × Applies (ledger_of s) caller at asked (Err e) (ledger_of t)
    applies-err t e keeps coming comes =
        let both = comes-err (world_of s) caller at asked e (world_of t) m.store.consistent m.moment coming comes in
        let after = machine-same t keeps both.1 in
        let now : world_of s ≡ now_of (ledger_of s) = m.replayed in
        let then : world_of t ≡ now_of (ledger_of t) = after.0.replayed in (
          after.0,
          record {
            entry = tt;
            err = after.1;
            comes = subst (λ (v : World). ComesTo v caller at asked (Err e) (now_of (ledger_of t))) now
                (subst (λ (v : World). ComesTo (world_of s) caller at asked (Err e) v) then both.0);
          },
        )

    -- a call that makes one
    pub applies-ok : (mid t : Store) (replies : Replies) → Keeps s mid → HasPlace 1 mid → at ≤ greatest → Comes (world_of s) at asked (Ok replies) (world_of mid)
        → world_of t ≡ world_of mid → t.history.items ≡ mid.history.items ++ entry_of caller at asked replies.recorded ∷ []
        → vec_len t.history ≡ vec_len mid.history + 1 → vec_capacity t.history ≡ vec_capacity mid.history
        → IsMachine t × Applies (ledger_of s) caller at asked (Ok replies.told) (ledger_of t)
    applies-ok mid t replies keeps place coming comes same items len capacity =
        let was = ledger_of s in
        let w = now_of was in
        let next = world_of t in
        let old : Answered (world_of s) caller at asked replies (world_of mid) = comes-answered (world_of s) caller at asked replies (world_of mid) comes in
        let answered : answer w at asked ≡ gives replies.told next =
        ap (λ (v : World). answer v at asked) (sym m.replayed) ∙ old.answered ∙ ap (gives replies.told) (sym same) in
        let size_is : size next ≡ size (world_of mid) = ap size same in
        let journal_was : (world_of s).config.journal ≡ w.config.journal = ap (λ (v : World). v.config.journal) m.replayed in
        let low = old.within in
        let within : size next ≤ w.config.journal = omega (arith, low, size_is, journal_was) in
        let entry = entry_of caller at asked replies.told in
        let step : IsStep w entry next = record { answered = answered; within = within } in
        let config : t.config ≡ s.config = ap (λ (v : World). v.config) same ∙ keeps.config in
        let items_are : t.history.items ≡ s.history.items ++ entry ∷ [] =
        items ∙ ap (λ (h : List Entry). h ++ entry_of caller at asked replies.recorded ∷ []) keeps.items ∙ ap (λ (r : Reply). s.history.items ++ entry_of caller at asked r ∷ []) old.twice in
        let ledger : ledger_of t ≡ served was entry = same-ledger t.config s.config t.history.items (s.history.items ++ entry ∷ []) config items_are in
        let replayed : now_of (ledger_of t) ≡ next = ap now_of ledger ∙ replay-step s.config s.history.items entry next step in
        let ok : IsConsistent w = now-consistent in
        let journal : t.config.journal ≡ s.config.journal = ap (λ (c : Config). c.journal) config in
        let reports : reports_to_come t.core.plan.rows ≡ reports_to_come mid.core.plan.rows = ap (λ (v : World). reports_to_come v.plan.rows) same in
        let few = m.store.journal in
        let before = now-moment in
        let moment = step-moment w entry next ok step in (
          record {
            store = record {
              consistent = step-consistent w entry next ok step;
              within = omega (arith, journal, journal_was, within);
              journal = omega (arith, journal, few);
              room = omega (arith, place, reports, len, capacity);
            };
            legal = subst (λ (l : Ledger). IsLegal l.config l.history) (sym ledger) (legal-push s.config s.history.items entry next m.legal step);
            replayed = sym replayed;
            moment = omega (arith, moment, before, coming);
          },
          record {
            entry = ledger;
            err = tt;
            comes = subst (λ (v : World). ComesTo w caller at asked (Ok replies.told) v) (sym replayed) (comes-ok w caller at asked replies.told next ok answered within);
          },
        )

-- ---- what is spare

-- nothing is changed
pub keeps-all : (s : Store) → Keeps s s
keeps-all s = record { config = refl; items = refl; len = refl; more = omega arith }

-- a machine has no more entries than the greatest journal
pub few-entries : (s : Store) → IsMachine s → length s.history.items ≤ 4000000
few-entries s m = let within = legal-length s.config s.history.items m.legal in let most = m.store.journal in omega (arith, within, most)
