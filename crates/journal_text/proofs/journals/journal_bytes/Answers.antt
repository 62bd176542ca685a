use Rattle.std.proofs.Common.{◌≡◌, ◌<◌, ◌^◌, ◌∷◌, [], ◌++◌, length, map, sym, ap, subst, ◌∙◌}
use Rattle.std.specs.Prelude.{IsUtf8}
use Rattle.std.proofs.lemmas.List.{length-map}
use Rattle.journal_text.specs.Journals.{header, journal_text, recorded_entry}
use Rattle.journal_text.specs.PrintLaws.{printed_is, same_entries, entries_recorded, is_writable}
use Rattle.journal_text.specs.TextLaws.{printed_utf8}
use Rattle.journal_text.proofs.journals.journal_bytes.Goals as goal

printed : (c : goal.After-from_vec) → c.from_vec.result ≡ journal_text c.args.config.now (map recorded_entry c.args.entries.now)
printed c =
    let first = c.in_ok-push_header.ensures.text ∙ ap (λ t. t ++ (header.spell c.args.config.now ++ 10 ∷ [])) c.new-out.ensures.items in
    printed_is c.args.config.now c.args.entries.now c.push_header.new.out.items c.push_lines.new.out.items c.from_vec.result first c.in_ok-push_lines.ensures.text (c.from_vec.ensures ∙ c.in_ok-push_closing.ensures.text)

pub returns-clause-text : goal.returns-clause-text
returns-clause-text c = printed c

pub returns-clause-recorded : goal.returns-clause-recorded
returns-clause-recorded c = λ k. printed c ∙ ap (λ es. journal_text c.args.config.now es) (same_entries c.args.entries.now k)

pub returns-clause-written : goal.returns-clause-written
returns-clause-written c = λ w. returns-clause-recorded c (entries_recorded c.args.entries.now w.each)

pub returns-clause-writable : goal.returns-clause-writable
returns-clause-writable c = λ p. is_writable c.args.config.now c.args.entries.now p c.in_ok-push_header.ensures.valid c.in_ok-push_lines.ensures.ranged c.in_ok-push_closing.ensures.small

pub returns-clause-utf8 : goal.returns-clause-utf8
returns-clause-utf8 c =
    let small : length (map recorded_entry c.args.entries.now) < 2 ^ 64 = subst (λ n. n < 2 ^ 64) (sym (length-map c.args.entries.now recorded_entry)) c.in_ok-push_closing.ensures.small in
    subst IsUtf8 (sym (printed c)) (printed_utf8 c.args.config.now (map recorded_entry c.args.entries.now) c.in_ok-push_header.ensures.clean c.in_ok-push_lines.ensures.ranged small)
