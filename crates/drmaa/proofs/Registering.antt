-- The hub's client registers callbacks, one after the other.
use Rattle.std.proofs.Common.{◌≡◌, ℕ, ◌+◌, ◌<◌, ◌^◌, List, [], ◌∷◌, ◌++◌, length, Option, Some, refl, sym, ◌∙◌, ap, subst, arith, length-append}
use Rattle.drmaa_types.specs.declared.changes.Notification.{Notification}
use Rattle.drmaa_types.specs.declared.refusals.Refusal.{Refusal}
use Rattle.drmaa_model.specs.declared.calls.Call.TheVariants as call
use Rattle.drmaa_model.specs.declared.configs.Config.{Config}
use Rattle.drmaa_model.specs.declared.entries.Entry.{Entry}
use Rattle.drmaa_model.specs.declared.faults.NoEntry.{NoEntry}
use Rattle.drmaa_model.specs.declared.faults.NoEntry.TheVariants as fault
use Rattle.drmaa_model.specs.declared.replies.Reply.TheVariants as reply
use Rattle.drmaa_model.specs.History.{IsLegal}
use Rattle.turn_lock.specs.Tokens.{Named, IsFree}
use Rattle.call_history.specs.Calls.{entry_by}
use Rattle.call_history.specs.Clients.{Seat, seen_of, mine_of, number_of, KnowsItsOwn}
use Rattle.call_history.specs.Clocks.{Dial}
use Rattle.call_history.specs.Refused.{refusal_of}
use Rattle.change_callbacks.specs.Ears.{HaveHeard}
use Rattle.notify_hub.specs.HubLaws.{registered-on, registers-both, registers-none}
use Rattle.notify_hub.specs.Hubs.{Following, IsNoteOf, IsNoteAt, FollowsNote, with_place, IsRegistered, IsUnregistered}
use Rattle.notify_hub.specs.Hubs.IsUnregistered.{by_entry, by_fault}
use Rattle.change_callbacks.specs.PlaceLaws.{countable}
use Rattle.change_callbacks.specs.Places.{place_of, AreCountable}
use Rattle.drmaa.specs.Closed.{IsShort, of_memory, of_journal, CannotBegin, short, callbacks, RegistersFrom}
use Rattle.drmaa.specs.Hubs.{HasRegistered, HaveRegistered}

-- ---- why a callback is not registered

by-fault : (f : NoEntry) (why : Refusal) → refusal_of f ≡ Some why → IsShort why
by-fault fault.OutOfMemory why is = of_memory (cc)
by-fault fault.NotYet why is = absurd (cc)
by-fault fault.Nothing why is = absurd (cc)
by-fault (fault.Journal n) why is = of_journal n (cc)

pub cannot : (config : Config) (early late : Dial) (client after : Seat) (why : Refusal) → IsUnregistered config early client why late after → CannotBegin why
cannot config early late client after why (by_entry full served most) = callbacks full
cannot config early late client after why (by_fault f is none) = short (by-fault f why is)

-- ---- one more

pub registers-push : (n : ℕ) (es : List Entry) (e : Entry) → RegistersFrom n es → e.call ≡ call.Register → e.reply ≡ reply.Callback (n + length es) → RegistersFrom n (es ++ e ∷ [])
registers-push n [] e all own told = (own, told ∙ ap reply.Callback (let h : n + 0 ≡ n = omega arith in h), tt)
registers-push n (x ∷ xs) e all own told =
    (all.0, all.1, registers-push (n + 1) xs e all.2 own (told ∙ ap reply.Callback (let h : n + length (x ∷ xs) ≡ (n + 1) + length xs = omega arith in h)))

module _ {B : Type 0} (counted : B → ℕ) (told : B → Option (List Notification)) (shared : Named Config) where
  pub registered-one : (early late : Dial) (old new : Following B) (client after : Seat) (n number : ℕ) → n ≡ number → shared.fixed.journal < 2 ^ 64 → IsFree shared after → number_of after ≡ number_of client
      → KnowsItsOwn after → IsLegal shared.fixed (seen_of after) → IsNoteAt shared (seen_of after) new.note → IsRegistered shared.fixed early client n late after
      → (AreCountable shared.fixed (seen_of after) → new.ears ≡ with_place old.ears n (place_of shared.fixed (seen_of after) n)) → FollowsNote new.ears new.note → (HaveHeard counted told old.ears → HaveHeard counted told new.ears)
      → HasRegistered counted told shared old client number new after
  registered-one early late old new client after n number is small free same own legal note r placed follows heard = record {
    free = free;
    number_is = same;
    own = own;
    on = registered-on shared early late old new client after n r note (placed (countable shared.fixed (seen_of after) legal small)) follows heard legal;
    registered = record {
      entry = entry_by (number_of client) r.entry.at call.Register (reply.Callback n);
      mine = r.looked.mine ∙ r.entry.made.mine;
      call = refl;
      reply = ap reply.Callback is;
    };
  }

  -- none so far
  pub registered-none : (hub : Following B) (client : Seat) → IsFree shared client → KnowsItsOwn client → mine_of client ≡ [] → IsNoteOf shared hub.note → HaveRegistered counted told shared hub client 0 hub client
  registered-none hub client free own new note = record {
    free = free;
    number_is = refl;
    own = own;
    on = registers-none shared hub client note;
    numbers = subst (RegistersFrom 1) (sym new) tt;
    as_many = ap length new;
  }

  -- one more
  pub registered-more : (a b c : Following B) (first then after : Seat) (k n : ℕ) → n ≡ k + 1 → HaveRegistered counted told shared a first k b then → HasRegistered counted told shared b then n c after
      → HaveRegistered counted told shared a first n c after
  registered-more a b c first then after k n is x y =
      let many = x.as_many in
      let next : n ≡ 1 + length (mine_of then) = omega (arith, is, many) in record {
        free = y.free;
        number_is = y.number_is ∙ x.number_is;
        own = y.own;
        on = registers-both shared a b c first then after x.on y.on;
        numbers = subst (RegistersFrom 1) (sym y.registered.mine)
            (registers-push 1 (mine_of then) y.registered.entry x.numbers y.registered.call (y.registered.reply ∙ ap reply.Callback next));
        as_many = (let a = ap length y.registered.mine in let l = length-append (mine_of then) (y.registered.entry ∷ []) in omega (arith, a, l, many, is));
      }
