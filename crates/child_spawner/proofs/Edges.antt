-- What is said of the fields is said of the values that callers see.
use Rattle.std.specs.Prelude.{◌≡◌, ℕ, List, Option, IfNone, IsSome, None, Some}
use Rattle.std.proofs.Common.{sym, subst}
use Rattle.drmaa_types.specs.declared.states.Exit.{Exit}
use Rattle.drmaa_types.specs.declared.states.SignalKind.{SignalKind}
use Rattle.child_spawner.specs.Deeds.{Deed, Fails, Withholds}
use Rattle.child_spawner.specs.Launch.{number_file}
use Rattle.child_spawner.proofs.Looks.{is_true_type}

-- a launch that failed, from the spawner's folder and host
pub launch_failed : (job attempt : ℕ) (folder inside : List ℕ) (words : List (List ℕ)) (before known after : Option (List Deed)) → inside ≡ folder → known ≡ before → Fails (number_file inside job attempt) words known after → Fails (number_file folder job attempt) words before after
launch_failed job attempt folder inside words before known after same_folder same_host failed =
    subst (λ f. Fails (number_file f job attempt) words before after) same_folder (subst (λ b. Fails (number_file inside job attempt) words b after) same_host failed)

-- a signal that was not sent, from the child's file, number and host
pub sending_failed : (kind : SignalKind) (number known_number : ℕ) (file inside : List ℕ) (before known after : Option (List Deed)) (ended : Option Exit) → known_number ≡ number → inside ≡ file → known ≡ before → Withholds kind known_number inside known after → IfNone ended (Withholds kind number file before after)
sending_failed kind number known_number file inside before known after None same_number same_file same_host failed =
    subst (λ n. Withholds kind n file before after) same_number (subst (λ f. Withholds kind known_number f before after) same_file (subst (λ b. Withholds kind known_number inside b after) same_host failed))
sending_failed kind number known_number file inside before known after (Some exit) same_number same_file same_host failed = tt

-- after the end nothing is said of it
pub sent_after_end : (P : Type 0) (ended : Option Exit) → IsSome ended → IfNone ended P
sent_after_end P None is_over = absurd (subst is_true_type (sym is_over) tt)
sent_after_end P (Some exit) is_over = tt
