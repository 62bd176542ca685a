-- Each script that lines spell can be played.
use Rattle.std.proofs.Common.{◌≡◌, ℕ, ◌<◌, ◌≤◌, nat_le, ◌&&◌, Bool, true, false, List, [], ◌∷◌, length, refl, sym, subst, arith, length-append}
use Rattle.std.proofs.lemmas.Bool.Decides.{nat_tests}
use Rattle.drmaa_model.specs.declared.configs.Config.{Config}
use Rattle.text_codec.specs.StepLaws.{both}
use Rattle.text_codec.specs.Formats.{checked}
use Rattle.script_lines.specs.declared.lines.Line.{Line}
use Rattle.script_text.specs.declared.scripts.Mode.{Mode}
use Rattle.script_text.specs.declared.scripts.Script.{Script}
use Rattle.script_text.specs.Header.{header, is_machine, config_of}
use Rattle.script_text.specs.Scripts.{Part, Job, Reservation, Lines, After, Makes, Spells, begun, may_open, with_block}
use Rattle.script_play.specs.Playable.{IsPlayable}

-- what blocks keep of a script
record Keeps (config : Config) (s : Script) : Type 0 where
  config_is : s.config ≡ config
  few : length s.clients ≤ 32

one_more : (b : Bool) (config : Config) (s : Script) (ls : List Line) → may_open b s ≡ true → Keeps config s → Keeps config (with_block s ls b)
one_more true config s ls h k = record { config_is = k.config_is; few = k.few }
one_more false config s ls h k = record {
  config_is = k.config_is;
  few = (let room : length s.clients < 32 = grind (arith, nat_tests) in omega (arith, room, length-append s.clients (ls ∷ [])));
}

block_keeps : (m : Mode) (config : Config) (s : Script) (p : Part) (t : Script) → Keeps config s → After m s p t → Keeps config t
block_keeps m config s (Job n fs) t k a = subst (Keeps config) (sym a.6) (record { config_is = k.config_is; few = k.few })
block_keeps m config s (Reservation n fs) t k a = subst (Keeps config) (sym a.6) (record { config_is = k.config_is; few = k.few })
block_keeps m config s (Lines b ls) t k a = subst (Keeps config) (sym a.2) (one_more b config s ls a.0 k)

blocks_keep : (m : Mode) (config : Config) (s : Script) (ps : List Part) (t : Script) → Keeps config s → Makes m s ps t → Keeps config t
blocks_keep m config s [] t k e = subst (Keeps config) e k
blocks_keep m config s (p ∷ ps) t k e = blocks_keep m config e.0 ps t (block_keeps m config s p e.0 k e.1) e.2

slots_in_range : (slots : ℕ) (name : List ℕ) → is_machine slots name ≡ true → (1 ≤ slots) × (slots ≤ 65_535)
slots_in_range slots name h =
    let least = both (nat_le 1 slots) (nat_le slots 65_535 && (nat_le 1 (length name) && nat_le (length name) 255)) h in
    let most = both (nat_le slots 65_535) (nat_le 1 (length name) && nat_le (length name) 255) least.1 in
    (from least.0, to most.0) where
      from : nat_le 1 slots ≡ true → 1 ≤ slots
      from e = grind (arith, nat_tests)

      to : nat_le slots 65_535 ≡ true → slots ≤ 65_535
      to e = grind (arith, nat_tests)

pub playable : (m : Mode) (lines : List (List ℕ)) (s : Script) → Spells m lines s → IsPlayable s
unfolding header checked
playable m lines s h =
    let slots = slots_in_range h.machine.0 h.machine.1.0 h.valid.1 in
    let made = blocks_keep m (config_of h.machine h.queues) (begun h.machine h.queues) h.parts s (record { config_is = refl; few = omega arith }) h.makes in
    record {
      least_slots = rw made.config_is slots.0;
      most_slots = rw made.config_is slots.1;
      least_journal = rw made.config_is (omega arith);
      most_journal = rw made.config_is (omega arith);
      queues = rw made.config_is h.queued;
      few = made.few;
    }
