-- The reservations of a history: our profile. The slots of a reservation are kept from its start to its end, or until it is ended before.
use Rattle.std.specs.Prelude.{◌≡◌, ℕ, nat_eq, min, max, map, List, [], ◌∷◌, Option, Some, None, option_to_list, if◌then◌else◌}
use Rattle.std.specs.List.{flat_map}
use Rattle.std.specs.Map.{lookup}
use Rattle.drmaa_model.specs.declared.calls.Call.{Call}
use Rattle.drmaa_model.specs.declared.calls.Call.TheVariants as call
use Rattle.drmaa_model.specs.declared.entries.Entry.{Entry}
use Rattle.drmaa_model.specs.declared.replies.Reply.{Reply}
use Rattle.drmaa_model.specs.declared.replies.Reply.TheVariants as reply
use Rattle.drmaa_types.specs.declared.infos.Reserved.{Reserved}

-- ---- accepted reservations, as they were then

abbrev pub accepted_in : Reply → Option Reserved
accepted_in (reply.Reserved reserved) = Some reserved
accepted_in other = None

abbrev pub accepted_of : List Entry → List Reserved
accepted_of entries = flat_map (λ (entry : Entry). option_to_list (accepted_in entry.reply)) entries

-- ---- when they were ended

-- the reservation that an accepted call ends
abbrev pub ended_by : Call → Option ℕ
ended_by (call.EndReservation session reservation) = Some reservation.0
ended_by other = None

abbrev pub ended_in : Call → Reply → Option ℕ
ended_in c reply.Unit = ended_by c
ended_in c other = None

-- when a reservation was ended, with one that is ended at this moment
abbrev pub ended_at : ℕ → ℕ → Option ℕ → Option ℕ → Option ℕ
ended_at n moment None before = before
ended_at n moment (Some m) before = if nat_eq m n then Some moment else before

-- when a reservation was ended by these entries, where time has come to a moment before the first: it never falls
abbrev pub end_from : ℕ → ℕ → Option ℕ → List Entry → Option ℕ
end_from n now before [] = before
end_from n now before (entry ∷ later) =
    end_from n (max now entry.at) (ended_at n (max now entry.at) (ended_in entry.call entry.reply) before) later

abbrev pub end_of : List Entry → ℕ → Option ℕ
end_of entries n = end_from n 0 None entries

-- ---- a table of that

abbrev pub end_in : List (ℕ × ℕ) → ℕ → Option ℕ
end_in ends n = lookup (λ (key : ℕ). nat_eq n key) ends

-- the table has the ends of these entries
abbrev pub Shows : List (ℕ × ℕ) → List Entry → Type 0
Shows ends entries = (n : ℕ) → end_in ends n ≡ end_of entries n

-- ---- from the start to the end

-- up to where it was ended
abbrev pub cut : Reserved → Option ℕ → Reserved
cut reserved None = reserved
cut reserved (Some moment) = record {
  reservation = reserved.reservation;
  slots = reserved.slots;
  from = reserved.from;
  until = max reserved.from (min reserved.until moment);
}

abbrev pub cut_in : List (ℕ × ℕ) → Reserved → Reserved
cut_in ends reserved = cut reserved (end_in ends reserved.reservation.0)

-- The reservations of a history, in the order in which they were accepted.
abbrev pub blocks_of : List Entry → List Reserved
blocks_of entries = map (λ (reserved : Reserved). cut reserved (end_of entries reserved.reservation.0)) (accepted_of entries)
