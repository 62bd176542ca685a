-- The outside agrees with a history, from what launcher and reaper keep of their own lists.
use Rattle.std.proofs.Common.{◌≡◌, ℕ, zero, suc, ◌+◌, Bool, true, false, ◌||◌, eqb, cond, List, [], ◌∷◌, ◌++◌, map, Option, Some, None, refl, sym, ap, ◌∙◌, subst, eq-eqb}
use Rattle.std.proofs.Math.Bool.{or-true}
use Rattle.std.proofs.lemmas.Bool.{false_from_ne_true}
use Rattle.std.specs.List.{list_any, slice_get, AllByRecursion}
use Rattle.std.specs.Option.{option_map, option_map_or}
use Rattle.std.proofs.lemmas.Option.{slice_get-map, same_Some}
use Rattle.drmaa_types.specs.declared.identifiers.JobId.{JobId}
use Rattle.drmaa_types.specs.declared.states.Exit.TheVariants as exit
use Rattle.child_spawner.specs.declared.fates.Asked.{Asked}
use Rattle.child_spawner.specs.declared.fates.Fate.{Fate}
use Rattle.child_spawner.specs.Children.{Told}
use Rattle.attendant.specs.Acts.{Duty}
use Rattle.attendant.specs.Acts.{TakeLaunch, Started, StartFailed, Exited, ExitUnknown, SignalDone, SignalFailed}
use Rattle.attendant.specs.Acts.{Act}
use Rattle.drmaa_model.specs.declared.replies.Launch.{Launch}
use Rattle.drmaa_model.specs.declared.replies.Reply.{Reply}
use Rattle.attendant.specs.Acts.{EachAfter, Each, is_run, is_launched, launches_run, launch_in, IsNewLaunch, of}
use Rattle.attendant.specs.declared.reaper.Held.{Held}
use Rattle.attendant.specs.declared.reaper.Hand.{Hand}
use Rattle.attendant.specs.Runs.{Request, request_of, with_request, requests_in, is_start_report, is_reported, is_kill_report, is_killed}
use Rattle.attendant.specs.Outside.{IsLaunchersEntry, LauncherCalls, Tends, IsFated, FailsPoll, FailsSignal, EndsBy, ExitTells, FaultTells, IsExit, IsFault, Tells, Agrees}
use Rattle.attendant.specs.Whole.{AgreesWithOutside, MayCall, AreAlone}
use Rattle.attendant.proofs.Entries.{each_after_at, any_kept, any_more}
use Rattle.attendant.proofs.Launches.{run_refl}

-- a launch of the launcher's own list is new in it
new_of : (front : List Act) (call : Duty) (r : Reply) (l : Launch) → LauncherCalls front call r → launch_in call r ≡ Some l → is_launched l.job l.attempt front ≡ false
new_of front TakeLaunch r l may is = subst (IsNewLaunch front) is may
new_of front _ r l may is = absurd (cc)

back_false : (job : JobId) (attempt : ℕ) (front : List Act) (e : Act) → is_launched job attempt (front ++ e ∷ []) ≡ false → is_launched job attempt front ≡ false
back_false job attempt front e none = false_from_ne_true _ (λ is. (let k = any_kept (launches_run job attempt) front (e ∷ []) is in absurd (cc)))

later_here : (front es : List Act) (e : Act) (l : Launch) (n : ℕ) (r : Request) → is_launched l.job l.attempt front ≡ false
    → ((k : ℕ) (q : Request) → slice_get (requests_in es) k ≡ Some q → is_launched q.job q.attempt (front ++ e ∷ []) ≡ false)
    → slice_get (request_of l ∷ requests_in es) n ≡ Some r → is_launched r.job r.attempt front ≡ false
later_here front es e l zero r new later is = subst (λ (q : Request). is_launched q.job q.attempt front ≡ false) (same_Some (request_of l) r is) new
later_here front es e l (suc n) r new later is = back_false r.job r.attempt front e (later n r is)

now_launched : (front : List Act) (e : Act) (l : Launch) → launch_in e.call e.reply ≡ Some l → is_launched l.job l.attempt (front ++ e ∷ []) ≡ true
now_launched front e l some = any_more (launches_run l.job l.attempt) front e ∙ ap (λ b. is_launched l.job l.attempt front || b)
    (ap (λ (o : Option Launch). option_map_or (λ (m : Launch). is_run m.job m.attempt l.job l.attempt) o false) some ∙ run_refl l.job l.attempt) ∙ or-true _

apart_here : (front es : List Act) (e : Act) (l : Launch) (n m : ℕ) (r q : Request) → launch_in e.call e.reply ≡ Some l
    → ((k : ℕ) (p : Request) → slice_get (requests_in es) k ≡ Some p → is_launched p.job p.attempt (front ++ e ∷ []) ≡ false)
    → ((i j : ℕ) → slice_get (requests_in es) i ≡ Some r → slice_get (requests_in es) j ≡ Some q → r.job ≡ q.job → r.attempt ≡ q.attempt → i ≡ j)
    → slice_get (request_of l ∷ requests_in es) n ≡ Some r → slice_get (request_of l ∷ requests_in es) m ≡ Some q → r.job ≡ q.job → r.attempt ≡ q.attempt → n ≡ m
apart_here front es e l zero zero r q some later later_apart is at job attempt = refl
apart_here front es e l zero (suc m) r q some later later_apart is at job attempt = absurd
    (let here = same_Some (request_of l) r is in
    let now = now_launched front e l some in
    let then = later m q at in
    let same : is_launched q.job q.attempt (front ++ e ∷ []) ≡ true = subst (λ (j : JobId). is_launched j q.attempt (front ++ e ∷ []) ≡ true) (ap (λ (p : Request). p.job) here ∙ job)
    (subst (λ (k : ℕ). is_launched l.job k (front ++ e ∷ []) ≡ true) (ap (λ (p : Request). p.attempt) here ∙ attempt) now) in cc)
apart_here front es e l (suc n) zero r q some later later_apart is at job attempt = absurd
    (let here = same_Some (request_of l) q at in
    let now = now_launched front e l some in
    let then = later n r is in
    let same : is_launched r.job r.attempt (front ++ e ∷ []) ≡ true = subst (λ (j : JobId). is_launched j r.attempt (front ++ e ∷ []) ≡ true) (ap (λ (p : Request). p.job) here ∙ sym job)
    (subst (λ (k : ℕ). is_launched l.job k (front ++ e ∷ []) ≡ true) (ap (λ (p : Request). p.attempt) here ∙ sym attempt) now) in cc)
apart_here front es e l (suc n) (suc m) r q some later later_apart is at job attempt = ap suc (later_apart n m is at job attempt)

later_new : (front es : List Act) (n : ℕ) (r : Request) → EachAfter IsLaunchersEntry front es → slice_get (requests_in es) n ≡ Some r → is_launched r.job r.attempt front ≡ false
later_new front [] n r all is = absurd (cc)
later_new front (e ∷ es) n r all is =
    (elim (launch_in e.call e.reply) as (λ o. launch_in e.call e.reply ≡ o → slice_get (with_request o (requests_in es)) n ≡ Some r → is_launched r.job r.attempt front ≡ false) [
      | None ↦ λ none is. back_false r.job r.attempt front e (later_new (front ++ e ∷ []) es n r all.1 is)
      | Some l ↦ λ some is. later_here front es e l n r (new_of front e.call e.reply l all.0 some) (λ k q. later_new (front ++ e ∷ []) es k q all.1) is
    ]) refl is

starts_apart : (front es : List Act) (n m : ℕ) (r q : Request) → EachAfter IsLaunchersEntry front es → slice_get (requests_in es) n ≡ Some r → slice_get (requests_in es) m ≡ Some q
    → r.job ≡ q.job → r.attempt ≡ q.attempt → n ≡ m
starts_apart front [] n m r q all is at job attempt = absurd (cc)
starts_apart front (e ∷ es) n m r q all is at job attempt =
    (elim (launch_in e.call e.reply) as (λ o. launch_in e.call e.reply ≡ o → slice_get (with_request o (requests_in es)) n ≡ Some r → slice_get (with_request o (requests_in es)) m ≡ Some q → n ≡ m) [
      | None ↦ λ none is at. starts_apart (front ++ e ∷ []) es n m r q all.1 is at job attempt
      | Some l ↦ λ some is at. apart_here front es e l n m r q some (λ k p. later_new (front ++ e ∷ []) es k p all.1) (λ i j. starts_apart (front ++ e ∷ []) es i j r q all.1) is at job attempt
    ]) refl is at

-- of a whole history

not_launcher : (n m caller : ℕ) (call : Duty) (r : Reply) → MayCall n m caller call → eqb caller n ≡ false → launch_in call r ≡ None
not_launcher n m caller TakeLaunch r may apart = absurd (let e = eq-eqb caller n may in cc)
not_launcher n m caller _ r may apart = refl

not_start : (n m caller : ℕ) (began : Bool) (job : JobId) (attempt : ℕ) (call : Duty) → MayCall n m caller call → eqb caller n ≡ false → is_start_report began job attempt call ≡ false
not_start n m caller began job attempt (Started other k) may apart = absurd (let e = eq-eqb caller n may in cc)
not_start n m caller began job attempt (StartFailed other k) may apart = absurd (let e = eq-eqb caller n may in cc)
not_start n m caller began job attempt _ may apart = refl

not_kill : (n m caller : ℕ) (job : JobId) (attempt : ℕ) (call : Duty) → MayCall n m caller call → eqb caller m ≡ false → is_kill_report job attempt call ≡ false
not_kill n m caller job attempt (SignalDone other k kind) may apart = absurd (let e = eq-eqb caller m may in cc)
not_kill n m caller job attempt _ may apart = refl

requests_of : (n m : ℕ) (es : List Act) → AreAlone n m es → requests_in (of es n) ≡ requests_in es
requests_of n m [] all = refl
requests_of n m (e ∷ es) all =
    (elim (eqb e.caller.0 n) as (λ b. eqb e.caller.0 n ≡ b → requests_in (cond b (e ∷ of es n) (of es n)) ≡ with_request (launch_in e.call e.reply) (requests_in es)) [
      | true ↦ λ is. ap (with_request (launch_in e.call e.reply)) (requests_of n m es all.1)
      | false ↦ λ apart. requests_of n m es all.1 ∙ ap (λ (o : Option Launch). with_request o (requests_in es)) (sym (not_launcher n m e.caller.0 e.call e.reply all.0 apart))
    ]) refl

any_of_own : (p : Act → Bool) (n : ℕ) (es : List Act) → AllByRecursion (λ (e : Act). eqb e.caller.0 n ≡ false → p e ≡ false) es → list_any p (of es n) ≡ list_any p es
any_of_own p n [] all = refl
any_of_own p n (e ∷ es) all =
    (elim (eqb e.caller.0 n) as (λ b. eqb e.caller.0 n ≡ b → list_any p (cond b (e ∷ of es n) (of es n)) ≡ (p e || list_any p es)) [
      | true ↦ λ is. ap (λ b. p e || b) (any_of_own p n es all.1)
      | false ↦ λ apart. any_of_own p n es all.1 ∙ ap (λ b. b || list_any p es) (sym (all.0 apart))
    ]) refl

all_map : (P Q : Act → Type 0) (es : List Act) → ((e : Act) → P e → Q e) → AllByRecursion P es → AllByRecursion Q es
all_map P Q [] h all = tt
all_map P Q (e ∷ es) h all = (h e all.0, all_map P Q es h all.1)

all_front : (P : Act → Type 0) (xs ys : List Act) → AllByRecursion P (xs ++ ys) → AllByRecursion P xs
all_front P [] ys all = tt
all_front P (x ∷ xs) ys all = (all.0, all_front P xs ys all.1)

all_here : (P : Act → Type 0) (xs ys : List Act) (e : Act) → AllByRecursion P (xs ++ e ∷ ys) → P e
all_here P [] ys e all = all.0
all_here P (x ∷ xs) ys e all = all_here P xs ys e all.1

of_split : (n : ℕ) (front back : List Act) (e : Act) → e.caller.0 ≡ n → of (front ++ e ∷ back) n ≡ of front n ++ e ∷ of back n
of_split n [] back e is = ap (λ b. cond b (e ∷ of back n) (of back n)) (eq-eqb e.caller.0 n is)
of_split n (x ∷ xs) back e is =
    elim (eqb x.caller.0 n) as (λ b. cond b (x ∷ of (xs ++ e ∷ back) n) (of (xs ++ e ∷ back) n) ≡ cond b (x ∷ of xs n) (of xs n) ++ e ∷ of back n) [
      | true ↦ ap (λ l. x ∷ l) (of_split n xs back e is)
      | false ↦ of_split n xs back e is
    ]

-- each of the reaper's entries, at its place in the whole history
own_at : (P : List Act → Act → Type 0) (m : ℕ) (history front back : List Act) (e : Act) → history ≡ front ++ e ∷ back → e.caller.0 ≡ m → Each P (of history m) → P (of front m) e
own_at P m history front back e is own all = each_after_at P [] (of front m) (of back m) e (subst (Each P) (ap (λ h. of h m) is ∙ of_split m front back e own) all)

by_reaper : (n m caller : ℕ) (call other : Duty) → MayCall n m caller call → call ≡ other → MayCall n m caller other
by_reaper n m caller call other may same = subst (MayCall n m caller) same may

killed_of : (n m : ℕ) (job : JobId) (attempt : ℕ) (front : List Act) → AreAlone n m front → is_killed job attempt (of front m) ≡ is_killed job attempt front
killed_of n m job attempt front alone = any_of_own (λ (e : Act). is_kill_report job attempt e.call) m front
    (all_map (λ (e : Act). MayCall n m e.caller.0 e.call) (λ (e : Act). eqb e.caller.0 m ≡ false → is_kill_report job attempt e.call ≡ false) front (λ e may apart. not_kill n m e.caller.0 job attempt e.call may apart) alone)

reported_of : (n m : ℕ) (began : Bool) (job : JobId) (attempt : ℕ) (es : List Act) → AreAlone n m es → is_reported began job attempt (of es n) ≡ is_reported began job attempt es
reported_of n m began job attempt es alone = any_of_own (λ (e : Act). is_start_report began job attempt e.call) n es
    (all_map (λ (e : Act). MayCall n m e.caller.0 e.call) (λ (e : Act). eqb e.caller.0 n ≡ false → is_start_report began job attempt e.call ≡ false) es (λ e may apart. not_start n m e.caller.0 began job attempt e.call may apart) alone)

-- a fact of one start of a run is one of the start of that run
fated_is : (P : Fate → Type 0) (starts : List Asked) (fate : ℕ → Fate) (launcher : List Act) (n : ℕ) (a : Asked) → Each IsLaunchersEntry launcher
    → requests_in launcher ≡ map (λ (a : Asked). record { job = a.job; attempt = a.attempt; words = a.words }) starts
    → slice_get starts n ≡ Some a → IsFated P starts fate a.job a.attempt → P (fate (n + 1))
fated_is P starts fate launcher n a all asked is f =
    let at : (k : ℕ) (b : Asked) → slice_get starts k ≡ Some b → slice_get (requests_in launcher) k ≡ Some (record { job = b.job; attempt = b.attempt; words = b.words }) =
    λ k b there. ap (λ (q : List Request). slice_get q k) asked ∙ slice_get-map (λ (a : Asked). record { job = a.job; attempt = a.attempt; words = a.words }) starts k ∙ ap (option_map (λ (a : Asked). record { job = a.job; attempt = a.attempt; words = a.words })) there in
    let same : f.before ≡ n = starts_apart [] launcher f.before n _ _ all (at f.before f.start.asked f.start.at) (at n a is) f.start.of_job f.start.of_attempt in
    subst (λ (k : ℕ). P (fate (k + 1))) same f.fated

pub outside : {T : Type 0} (told : T → Option Told) (n m : ℕ) (starts : List Asked) (fate : ℕ → Fate) (history : List Act) (at : ℕ → Option (Held T)) (hand : Option Hand)
    → AreAlone n m history → Tends (of history n) (of history m) at hand → Tells told starts fate (of history n) (of history m) at hand → Agrees starts fate (of history n) (of history m)
    → AgreesWithOutside starts fate history
outside told n m starts fate history at hand alone tends tells agrees = record {
  launches = sym (requests_of n m history alone) ∙ tells.asked;
  began = λ k a is. sym (reported_of n m true a.job a.attempt history alone) ∙ (agrees.starts_reported k a is).began;
  failed = λ k a is. sym (reported_of n m false a.job a.attempt history alone) ∙ (agrees.starts_reported k a is).failed;
  exits = λ front back e x k a is call there.
      (let all = subst (AreAlone n m) is alone in
      let own = by_reaper n m e.caller.0 e.call (Exited a.job a.attempt x) (all_here (λ (e : Act). MayCall n m e.caller.0 e.call) front back e all) call in
      let here = own_at (IsExit starts fate) m history front back e is own agrees.exits in
      let fact : ExitTells starts fate (of front m) (Exited a.job a.attempt x) = subst (ExitTells starts fate (of front m)) call here in
      fated_is (EndsBy (is_killed a.job a.attempt (of front m)) x) starts fate (of history n) k a tends.launches tells.asked there fact
      ∙ ap (λ b. cond b (exit.Signal 9) (fate (k + 1)).exit) (killed_of n m a.job a.attempt front (all_front (λ (e : Act). MayCall n m e.caller.0 e.call) front (e ∷ back) all)));
  unknown = λ front back e k a is call there.
      (let all = subst (AreAlone n m) is alone in
      let own = by_reaper n m e.caller.0 e.call (ExitUnknown a.job a.attempt) (all_here (λ (e : Act). MayCall n m e.caller.0 e.call) front back e all) call in
      let fact : FaultTells starts fate (ExitUnknown a.job a.attempt) = subst (FaultTells starts fate) call (own_at (IsFault starts fate) m history front back e is own tells.faults) in
      fated_is FailsPoll starts fate (of history n) k a tends.launches tells.asked there fact);
  undelivered = λ front back e kind k a is call there.
      (let all = subst (AreAlone n m) is alone in
      let own = by_reaper n m e.caller.0 e.call (SignalFailed a.job a.attempt kind) (all_here (λ (e : Act). MayCall n m e.caller.0 e.call) front back e all) call in
      let fact : FaultTells starts fate (SignalFailed a.job a.attempt kind) = subst (FaultTells starts fate) call (own_at (IsFault starts fate) m history front back e is own tells.faults) in
      fated_is FailsSignal starts fate (of history n) k a tends.launches tells.asked there fact);
}
