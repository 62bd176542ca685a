-- The entries of a lock's history and those of the machine are the same, told in two ways.
use Rattle.std.specs.Prelude.{◌≡◌, List, [], ◌∷◌, ◌++◌, map, refl}
use Rattle.std.proofs.Common.{ap}
use Rattle.drmaa_types.specs.declared.chronicles.ChronicleEntry.{ChronicleEntry}
use Rattle.drmaa_model.specs.declared.entries.Entry.{Entry}
use Rattle.drmaa_model.specs.declared.replies.Reply.{Reply}
use Rattle.drmaa_machine.specs.declared.chronicles.Ask.{Ask}
use Rattle.drmaa_machine.specs.Chronicles.{told, untold, history_of}

pub history-told : (h : List Entry) → history_of (map told h) ≡ h
history-told [] = refl
history-told (e ∷ h) = ap (λ (t : List Entry). e ∷ t) (history-told h)

pub told-append : (xs ys : List Entry) → map told (xs ++ ys) ≡ map told xs ++ map told ys
told-append [] ys = refl
told-append (e ∷ xs) ys = ap (λ (t : List (ChronicleEntry Ask Reply)). told e ∷ t) (told-append xs ys)

pub history-append : (xs ys : List (ChronicleEntry Ask Reply)) → history_of (xs ++ ys) ≡ history_of xs ++ history_of ys
history-append [] ys = refl
history-append (e ∷ xs) ys = ap (λ (t : List Entry). untold e ∷ t) (history-append xs ys)
