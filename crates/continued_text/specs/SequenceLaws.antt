-- The reader reads a journal and the script behind it, and from every state such a text goes on.
use Rattle.std.proofs.Common.{◌≡◌, ℕ, not, List, [], ◌∷◌, ◌++◌, Some, refl, sym, ap, subst, ◌∙◌, append_assoc, append-nil}
use Rattle.std.proofs.lemmas.List.Elements.{filter-append}
use Rattle.std.proofs.lemmas.Option.{none-some, same_Some}
use Rattle.text_codec.specs.Formats.{◌>>=◌}
use Rattle.text_codec.specs.StepLaws.{bind}
use Rattle.text_lines.specs.Lines.{is_skipped, unskipped_lines, GoesOn}
use Rattle.text_lines.specs.LineLaws.{both_lines}
use Rattle.text_lines.specs.Automata.{Runs, Reads, GoesBy, from, runs-append}
use Rattle.text_lines.specs.Skipping.{SpellsUnskipped, skipping}
use Rattle.text_lines.specs.SkippingLaws.{reads_all}
use Rattle.text_lines.specs.declared.skipping.Skipping.{Skipping}
use Rattle.journal_text.specs.Journals.{IsWritable}
use Rattle.journal_text.specs.Journals as spelled
use Rattle.journal_text.specs.Reading as journals
use Rattle.journal_text.specs.JournalLaws.{reads_from}
use Rattle.journal_text.specs.declared.journals.Journal.{Journal}
use Rattle.journal_text.specs.declared.reading.JournalReader.{JournalReader}
use Rattle.journal_text.specs.declared.reading.JournalReader.TheVariants as state
use Rattle.continued_text.specs.Texts.{SpellsScript, Spells}
use Rattle.continued_text.specs.Reading.{start_behind, SpellsBehind, matching, onward, next, ends, continuing}
use Rattle.continued_text.specs.MatchingLaws.{reads_matching}
use Rattle.continued_text.specs.declared.texts.Continued.{Continued}
use Rattle.continued_text.specs.declared.matching.MatchingReader.{MatchingReader}
use Rattle.continued_text.specs.declared.reading.ContinuedReader.{ContinuedReader}
use Rattle.continued_text.specs.declared.reading.ContinuedReader.TheVariants.{InJournal, InScript}

abbrev JournalGoes : JournalReader → List ℕ → JournalReader → Type 0
JournalGoes s l t = journals.next s l ≡ Some t

abbrev ScriptGoes : Skipping MatchingReader → List ℕ → Skipping MatchingReader → Type 0
ScriptGoes s l t = (skipping matching).next s l ≡ Some t

abbrev Goes : ContinuedReader → List ℕ → ContinuedReader → Type 0
Goes s l t = next s l ≡ Some t

abbrev first_of : Journal → Skipping MatchingReader
first_of j = record { reader = start_behind j }

journals_read : Reads JournalGoes state.Start journals.ends spelled.Spells
journals_read = reads_from state.Start refl

scripts_read : (j : Journal) → IsWritable j.config j.entries → Reads ScriptGoes (first_of j) (skipping matching).ends (SpellsUnskipped (SpellsBehind j))
scripts_read j w = reads_all matching reads_matching (first_of j) (record { writable = w; start = refl })

-- ---- what was read, by the state that was reached

record Crossed (ls : List (List ℕ)) (u : Skipping MatchingReader) : Type 0 where
  journal : Journal
  journal_lines : List (List ℕ)
  script_lines : List (List ℕ)
  parts : ls ≡ journal_lines ++ script_lines
  journal_run : Runs JournalGoes state.Start journal_lines (state.Ended journal)
  script_run : Runs ScriptGoes (first_of journal) script_lines u

abbrev Behind : List (List ℕ) → ContinuedReader → Type 0
Behind ls (InJournal s) = Runs JournalGoes state.Start ls s
Behind ls (InScript u) = Crossed ls u

journal_more : (ls : List (List ℕ)) (s t : JournalReader) (l : List ℕ) → Runs JournalGoes state.Start ls s → JournalGoes s l t → Runs JournalGoes state.Start (ls ++ l ∷ []) t
journal_more ls s t l r g = runs-append JournalGoes state.Start s t ls (l ∷ []) r (t, g, refl)

onward_more : (ls : List (List ℕ)) (t : JournalReader) → Runs JournalGoes state.Start ls t → Behind ls (onward t)
onward_more ls state.Start r = r
onward_more ls (state.Going c es) r = r
onward_more ls (state.Ended j) r = record { journal = j; journal_lines = ls; script_lines = []; parts = sym (append-nil ls); journal_run = r; script_run = refl }

script_more : (ls : List (List ℕ)) (s t : Skipping MatchingReader) (l : List ℕ) → Crossed ls s → ScriptGoes s l t → Crossed (ls ++ l ∷ []) t
script_more ls s t l h g = record {
  journal = h.journal;
  journal_lines = h.journal_lines;
  script_lines = h.script_lines ++ l ∷ [];
  parts = ap (λ ks. ks ++ l ∷ []) h.parts ∙ append_assoc h.journal_lines h.script_lines (l ∷ []);
  journal_run = h.journal_run;
  script_run = runs-append ScriptGoes (first_of h.journal) s t h.script_lines (l ∷ []) h.script_run (t, g, refl);
}

line_more : (ls : List (List ℕ)) (l : List ℕ) (s t : ContinuedReader) → Behind ls s → Goes s l t → Behind (ls ++ l ∷ []) t
line_more ls l (InJournal s) t b g = bind (journals.next s l) _ t g (λ m a e.
    subst (Behind (ls ++ l ∷ [])) (same_Some _ _ e) (onward_more (ls ++ l ∷ []) m (journal_more ls s m l b a)))
line_more ls l (InScript s) t b g = bind ((skipping matching).next s l) _ t g (λ m a e.
    subst (Behind (ls ++ l ∷ [])) (same_Some _ _ e) (script_more ls s m l b a))

lines_more : (front ls : List (List ℕ)) (s t : ContinuedReader) → Behind front s → Runs Goes s ls t → Behind (front ++ ls) t
lines_more front [] s t b r = subst (Behind (front ++ [])) r (subst (λ ks. Behind ks s) (sym (append-nil front)) b)
lines_more front (l ∷ ls) s t b r =
    subst (λ ks. Behind ks t) (append_assoc front (l ∷ []) ls) (lines_more (front ++ l ∷ []) ls r.0 t (line_more front l s r.0 b r.1) r.2)

reached : (ls : List (List ℕ)) (t : ContinuedReader) → Runs Goes (InJournal state.Start) ls t → Behind ls t
reached ls t r = lines_more [] ls (InJournal state.Start) t refl r

-- ---- it is the text of both

crossed_journal : (ls : List (List ℕ)) (u : Skipping MatchingReader) (h : Crossed ls u) → spelled.Spells h.journal_lines h.journal
crossed_journal ls u h = journals_read.sound h.journal_lines (state.Ended h.journal) h.journal h.journal_run refl

both_spelled : (lines journal_lines script_lines : List (List ℕ)) (j : Journal) (c : Continued) → lines ≡ journal_lines ++ script_lines
    → spelled.Spells journal_lines j → SpellsUnskipped (SpellsBehind j) script_lines c → Spells lines c
both_spelled lines js ss j c e h k = record {
  journal_lines = js;
  script_lines = ss;
  parts = e;
  journal = subst (spelled.Spells js) (sym k.spelled.journal) h;
  script = record { readable = k.readable; spelled = k.spelled.script };
  same = k.spelled.same ∙ ap (λ (x : Journal). x.config) (sym k.spelled.journal);
}

sound : (ls : List (List ℕ)) (t : ContinuedReader) (c : Continued) → Runs Goes (InJournal state.Start) ls t → ends t ≡ Some c → Spells ls c
sound ls (InJournal s) c r e = absurd (none-some _ e)
sound ls (InScript u) c r e =
    let h = reached ls (InScript u) r in
    let j = crossed_journal ls u h in
    both_spelled ls h.journal_lines h.script_lines h.journal c h.parts j ((scripts_read h.journal j.writable).sound h.script_lines u c h.script_run e)

-- ---- and such a text is read

journal_step : (s t : JournalReader) (l : List ℕ) → JournalGoes s l t → Goes (onward s) l (onward t)
journal_step state.Start t l g = ap (λ o. o >>= λ m. Some (onward m)) g
journal_step (state.Going c es) t l g = ap (λ o. o >>= λ m. Some (onward m)) g
journal_step (state.Ended j) t l g = absurd (none-some _ g)

journal_run : (s t : JournalReader) (ls : List (List ℕ)) → Runs JournalGoes s ls t → Runs Goes (onward s) ls (onward t)
journal_run s t [] r = ap onward r
journal_run s t (l ∷ ls) r = (onward r.0, journal_step s r.0 l r.1, journal_run r.0 t ls r.2)

script_run : (s t : Skipping MatchingReader) (ls : List (List ℕ)) → Runs ScriptGoes s ls t → Runs Goes (InScript s) ls (InScript t)
script_run s t [] r = ap InScript r
script_run s t (l ∷ ls) r = (InScript r.0, ap (λ o. o >>= λ m. Some (InScript m)) r.1, script_run r.0 t ls r.2)

ended_is : (t : JournalReader) (j : Journal) → journals.ends t ≡ Some j → t ≡ state.Ended j
ended_is state.Start j e = absurd (none-some _ e)
ended_is (state.Going c es) j e = absurd (none-some _ e)
ended_is (state.Ended k) j e = ap (λ x. state.Ended x) (same_Some k j e)

of_script : (ss : List (List ℕ)) (c : Continued) → SpellsScript ss c.script → c.script.config ≡ c.journal.config → SpellsUnskipped (SpellsBehind c.journal) ss c
of_script ss c h same = record { readable = h.readable; spelled = record { journal = refl; script = h.spelled; same = same } }

complete : (ls : List (List ℕ)) (c : Continued) → Spells ls c → (t : ContinuedReader) × Runs Goes (InJournal state.Start) ls t × (ends t ≡ Some c)
complete ls c h =
    let j = journals_read.complete h.journal_lines c.journal h.journal in
    let first = journal_run state.Start j.0 h.journal_lines j.1 in
    let behind = subst (λ t. Runs Goes (InJournal state.Start) h.journal_lines (onward t)) (ended_is j.0 c.journal j.2) first in
    let s = (scripts_read c.journal h.journal.writable).complete h.script_lines c (of_script h.script_lines c h.script h.same) in
    let second = script_run (first_of c.journal) s.0 h.script_lines s.1 in
    let all = runs-append Goes (InJournal state.Start) (InScript (first_of c.journal)) (InScript s.0) h.journal_lines h.script_lines behind second in
    (InScript s.0, subst (λ ks. Runs Goes (InJournal state.Start) ks (InScript s.0)) (sym h.parts) all, s.2)

-- ---- from every state such a text goes on

both_unskipped : (ls ms : List (List ℕ)) → unskipped_lines ls ≡ ls → unskipped_lines ms ≡ ms → unskipped_lines (ls ++ ms) ≡ ls ++ ms
both_unskipped ls ms a b = filter-append (λ l. not (is_skipped l)) ls ms ∙ ap (λ ks. ks ++ unskipped_lines ms) a ∙ ap (λ ks. ls ++ ks) b

journal_on : (ls : List (List ℕ)) (s : JournalReader) → Runs JournalGoes state.Start ls s → GoesOn Spells ls
journal_on ls s r =
    let g = journals_read.goes_on ls s r in
    let k = (scripts_read g.text g.spelled.writable).goes_on [] (first_of g.text) refl in
    record {
      more = g.more ++ k.more;
      are_lines = both_lines g.more k.more g.are_lines k.are_lines;
      text = k.text;
      spelled = both_spelled (ls ++ (g.more ++ k.more)) (ls ++ g.more) k.more g.text k.text (sym (append_assoc ls g.more k.more)) g.spelled k.spelled;
      unskipped = both_unskipped g.more k.more g.unskipped k.unskipped;
    }

script_on : (ls : List (List ℕ)) (u : Skipping MatchingReader) → Crossed ls u → GoesOn Spells ls
script_on ls u h =
    let j = crossed_journal ls u h in
    let k = (scripts_read h.journal j.writable).goes_on h.script_lines u h.script_run in
    record {
      more = k.more;
      are_lines = k.are_lines;
      text = k.text;
      spelled = both_spelled (ls ++ k.more) h.journal_lines (h.script_lines ++ k.more) h.journal k.text
          (ap (λ ks. ks ++ k.more) h.parts ∙ append_assoc h.journal_lines h.script_lines k.more) j k.spelled;
      unskipped = k.unskipped;
    }

on_from : (ls : List (List ℕ)) (t : ContinuedReader) → Behind ls t → GoesOn Spells ls
on_from ls (InJournal s) b = journal_on ls s b
on_from ls (InScript u) b = script_on ls u b

continued_read : Reads Goes (InJournal state.Start) ends Spells
continued_read = record { sound = sound; complete = complete; goes_on = λ ls t r. on_from ls t (reached ls t r) }

pub reads_continued : (first : ContinuedReader) → continuing.is_first first → Reads (GoesBy (from continuing first)) first continuing.ends (continuing.Spells first)
reads_continued first e = subst (λ s. Reads Goes s ends Spells) (sym e) continued_read
