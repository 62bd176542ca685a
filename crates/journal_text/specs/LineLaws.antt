-- The laws of the lines of journals.
use Rattle.std.proofs.Common.{◌≡◌, ℕ, ◌<◌, ◌^◌, List, [], ◌∷◌, ◌++◌, Some, None, codes, lit≤, refl, sym, ap, subst, ◌∙◌, arith, append_assoc}
use Rattle.std.proofs.lemmas.Option.{same_Some}
use Rattle.drmaa_types.specs.Queues.{are_queues}
use Rattle.drmaa_model.specs.declared.configs.Config.{Config}
use Rattle.drmaa_model.specs.declared.entries.Entry.{Entry}
use Rattle.text_codec.specs.Formats.{IsFormat, strip, number, moment, pair, mapped, behind, checked, list_of, read_line}
use Rattle.text_codec.specs.Fields.{joined}
use Rattle.text_codec.specs.Sums.{sum_of}
use Rattle.text_codec.specs.StepLaws.{both, bind}
use Rattle.text_codec.specs.FormatLaws.{behind_laws, pair_laws, mapped_laws, checked_laws}
use Rattle.text_codec.specs.FieldLaws.{joined_laws}
use Rattle.text_codec.specs.BaseLaws.{text_laws, moment_laws, one_of_laws, number_laws_64, number_laws_32, number_avoids}
use Rattle.text_codec.specs.Quotes.{text}
use Rattle.text_codec.specs.Numbers.{caller_id}
use Rattle.text_codec.specs.NumberLaws.{caller_id_laws}
use Rattle.journal_forms.specs.Calls.{calls, calls_with}
use Rattle.journal_forms.specs.CallLaws.{calls_laws}
use Rattle.journal_forms.specs.Replies.{replies}
use Rattle.journal_forms.specs.ReplyLaws.{replies_laws}
use Rattle.journal_text.specs.declared.titles.TheConstants.{SUSPENDS}
use Rattle.journal_text.specs.Queues.{queues}
use Rattle.journal_text.specs.QueueLaws.{queues_laws}
use Rattle.journal_text.specs.Journals.{journal_size, suspend_text, suspend, machine, is_machine, machine_of, is_title, title, config_of, title_of, header, old_title, old_header, stamp, answered, make_entry, entry_parts, entry_with, entry, closing, IsEntry}

pub suspend_laws : IsFormat suspend
unfolding suspend
suspend_laws = one_of_laws suspend_text SUSPENDS refl

pub machine_laws : IsFormat machine
unfolding machine
machine_laws = pair_laws _ _ number_laws_32 (pair_laws text suspend text_laws suspend_laws)

pub title_laws : IsFormat title
unfolding title
title_laws = checked_laws is_title _ (behind_laws (codes "drmaa-journal 2 ") _ refl (pair_laws machine queues machine_laws queues_laws))

pub header_laws : IsFormat header
unfolding header
header_laws = record {
  found = λ bs r e. bind (title.read bs) _ r e (λ p a d.
      let h = title_laws.found bs p a in
      subst (λ s. (title.valid (title_of s.0) × (s.0.journal ≡ journal_size)) × (bs ≡ title.spell (title_of s.0) ++ s.1)) (same_Some _ _ d) ((h.0, refl), h.1));
  again = λ c rest v p.
      let same : config_of (title_of c) ≡ c = ap (λ n. record c { journal = n }) (sym v.1) in
      rw (title_laws.again (title_of c) rest v.0 p) (ap (λ k. Some (k, rest)) same);
  clean = λ c v. title_laws.clean (title_of c) v.0;
}

-- the first line of version 1
old_title_laws : IsFormat old_title
unfolding old_title
old_title_laws = checked_laws is_machine _ (behind_laws (codes "drmaa-journal 1 ") machine refl machine_laws)

pub old_header_laws : IsFormat old_header
unfolding old_header
old_header_laws = record {
  found = λ bs r e. bind (old_title.read bs) _ r e (λ p a d.
      let h = old_title_laws.found bs p a in
      subst (λ s. (old_title.valid (machine_of s.0) × (s.0.journal ≡ journal_size) × (s.0.queues ≡ [])) × (bs ≡ old_title.spell (machine_of s.0) ++ s.1)) (same_Some _ _ d) ((h.0, refl, refl), h.1));
  again = λ c rest v p.
      let same : config_of (machine_of c, []) ≡ c = ap (λ n. record c { journal = n; queues = [] }) (sym v.1) ∙ ap (λ qs. record c { queues = qs }) (sym v.2) in
      rw (old_title_laws.again (machine_of c) rest v.0 p) (ap (λ k. Some (k, rest)) same);
  clean = λ c v. old_title_laws.clean (machine_of c) v.0;
}

-- it says a machine of a journal without queues, and is no first line of version 2
pub old_is : (c : Config) → header.valid c → c.queues ≡ [] → old_header.valid c
unfolding header title old_header old_title checked behind pair
old_is c v none = ((v.0.0.0, (both (is_machine (machine_of c)) (are_queues c.slots c.queues) v.0.1).0), v.1, none)

pub new_is : (c : Config) → old_header.valid c → header.valid c × (c.queues ≡ [])
unfolding header title old_header old_title checked behind pair queues list_of
new_is c v = (subst (λ qs. header.valid (record c { queues = qs })) (sym v.2) (((v.0.0, tt), rw v.0.1 refl), v.1), v.2)

pub old_apart : (c : Config) → read_line header (old_header.spell c) ≡ None
unfolding header title old_header old_title checked behind
old_apart c = refl

pub stamp_laws : IsFormat stamp
unfolding stamp
stamp_laws = pair_laws _ _ number_laws_64 (pair_laws caller_id moment caller_id_laws moment_laws)

pub answered_laws : IsFormat (answered calls)
unfolding answered calls calls_with sum_of
answered_laws = joined_laws (codes " = ") calls replies refl (λ rest. refl) (λ rest. refl) calls_laws replies_laws

pub entry_laws : IsFormat entry
unfolding entry entry_with
entry_laws = mapped_laws make_entry entry_parts _ (pair_laws stamp (answered calls) stamp_laws answered_laws) (λ x v. refl) (λ y v. refl)

pub closing_laws : IsFormat closing
unfolding closing
closing_laws = behind_laws (codes "end ") _ refl number_laws_64

-- the parts of an entry that is spelled
pub entry_valid : (n : ℕ) (e : Entry) → n < 2 ^ 64 → IsEntry e → entry.valid (n, e)
unfolding entry entry_with mapped pair stamp answered joined number
entry_valid n e small v = ((small, (v.caller, v.at)), (v.call, v.reply))

pub entry_number : (n : ℕ) (e : Entry) → entry.valid (n, e) → n < 2 ^ 64
unfolding entry entry_with mapped pair stamp number
entry_number n e v = v.0.0

pub entry_is : (n : ℕ) (e : Entry) → entry.valid (n, e) → IsEntry e
unfolding entry entry_with mapped pair stamp answered joined
entry_is n e v = record { caller = v.0.1.0; at = v.0.1.1; call = v.1.0; reply = v.1.1 }

pub number_is : (n : ℕ) → n < 2 ^ 64 → (number (2 ^ 64)).valid n
unfolding number
number_is n h = h

pub closing_is : (n : ℕ) → n < 2 ^ 64 → closing.valid n
unfolding closing behind number
closing_is n h = h

-- an entry's line begins with a digit, and not as the last line does
pub entry_no_end : (n : ℕ) (e : Entry) → n < 2 ^ 64 → strip (codes "end ") (entry.spell (n, e)) ≡ None
unfolding entry entry_with mapped pair stamp
entry_no_end n e small =
    ap (strip (codes "end ")) (regroup ((number (2 ^ 64)).spell n) _ _) ∙ number_avoids (2 ^ 64) 101 (lit≤ tt) (λ a b. absurd (omega (arith, b))) (codes "nd ") n _ (number_is n small)
  where
    regroup : (a b c : List ℕ) → (a ++ 32 ∷ b) ++ 32 ∷ c ≡ a ++ (32 ∷ (b ++ 32 ∷ c))
    regroup a b c = append_assoc a (32 ∷ b) (32 ∷ c)
