-- How one pump after another comes to all of a play.
use Rattle.std.proofs.Common.{◌≡◌, ℕ, zero, suc, ◌+◌, ◌-◌, ◌<◌, ◌≤◌, List, [], ◌∷◌, ◌++◌, length, drop, Option, Some, None, refl, sym, ap, ◌∙◌, subst, arith, append_assoc, append-nil, ⊎_elim, slice_index_or}
use Rattle.std.proofs.lemmas.List.{map-append, drop_all, drop-append-le, length-append}
use Rattle.std.proofs.lemmas.Bool.{cases_lt}
use Rattle.std.proofs.Math.Nat.{sub-eq-zero_of_le}
use Rattle.std.proofs.Math.Seq.{drop-append-add, drop-nil}
use Rattle.drmaa_types.specs.Notifications.{notification_of}
use Rattle.drmaa_types.specs.declared.changes.Change.{Change}
use Rattle.drmaa_types.specs.declared.changes.Notification.{Notification}
use Rattle.drmaa_model.specs.declared.configs.Config.{Config}
use Rattle.drmaa_model.specs.declared.entries.Entry.{Entry}
use Rattle.drmaa_model.specs.History.{Ledger, now_of}
use Rattle.change_callbacks.specs.Ears.{Listening, EachHeard, due, notifications, place_at}
use Rattle.change_callbacks.specs.Hearing.{HasHeard}
use Rattle.change_callbacks.specs.HearingLaws.{HasHeard-none, HasHeard-then}
use Rattle.change_callbacks.specs.Places.{registrations_of}
use Rattle.script_lines.specs.declared.lines.Line.{Line}
use Rattle.script_text.specs.declared.scripts.Script.{Script}
use Rattle.script_text.specs.Follows.{lines_of}
use Rattle.script_asks.specs.declared.given.Given.{Given}
use Rattle.script_asks.specs.Plays as plays
use Rattle.script_asks.specs.Plays.{Playing, play_line, play_lines, opening_in}
use Rattle.script_play.specs.Along.{after_lines, after_client_lines, after_block_lines, histories, IsHandedOn, IsPumped, HeardAlong, HeardPart, HeardAt, HeardPlay, HeardPlayPart}
use Rattle.script_play.specs.CallbackLaws.{current-heard-after}
use Rattle.script_play.specs.Callbacks.{AreCurrentAfter, HearHistoryAfter}
use Rattle.script_play.specs.Looks.{GoesTo}
use Rattle.script_play.specs.View.{Start, View, IsNoted, playing, unplayed}

-- ---- what is due of one list and then of another

due-none : (n : ℕ) (place : Option ℕ) → due n [] place ≡ []
due-none n None = refl
due-none n (Some place) = drop-nil (place - n)

drop-both : (n : ℕ) (xs ys : List Change) → drop n (xs ++ ys) ≡ drop n xs ++ drop (n - length xs) ys
drop-both n xs ys = ⊎_elim
    (λ (past : length xs < n). ap (λ k. drop k (xs ++ ys)) (let e : n ≡ length xs + (n - length xs) = omega (arith, past) in e)
    ∙ drop-append-add xs ys (n - length xs)
    ∙ sym (ap (λ zs. zs ++ drop (n - length xs) ys) (drop_all n xs (omega (arith, past)))))
    (λ (within : n ≤ length xs). drop-append-le n xs ys within ∙ ap (λ k. drop n xs ++ drop k ys) (sym (sub-eq-zero_of_le within)))
    (cases_lt (length xs) n)

due-then : (n : ℕ) (xs ys : List Change) (place : Option ℕ) → due n (xs ++ ys) place ≡ due n xs place ++ due (n + length xs) ys place
due-then n xs ys None = refl
due-then n xs ys (Some place) =
    drop-both (place - n) xs ys ∙ ap (λ (k : ℕ). drop (place - n) xs ++ drop k ys) (let e : place - n - length xs ≡ place - (n + length xs) = omega arith in e)

-- the blocks from the next place on
pub next-block : (xs : List (List Line)) (i : ℕ) (b : List Line) → drop i xs ≡ b ∷ drop (suc i) xs → drop i xs ≡ b ∷ drop (i + 1) xs
next-block xs i b is = is ∙ ap (λ (k : ℕ). b ∷ drop k xs) (let e : suc i ≡ i + 1 = omega arith in e)

module _ {B : Type 0} (counted : B → ℕ) (told : B → Option (List Notification)) where
  -- ---- changes are handed over

  pub on-none : (ears : Listening B) → IsHandedOn counted told ears ears
  on-none ears = record {
    fresh = [];
    handed = sym (append-nil ears.handed);
    hears = record {
      as_many = refl;
      each = λ i d inside. let b : B = slice_index_or ears.callbacks i d in
          subst (λ (xs : List Change). HasHeard counted told b b (notifications xs)) (sym (due-none (length ears.handed) (place_at ears.places i))) (HasHeard-none b);
    };
  }

  pub on-then : (a b c : Listening B) → c.places ≡ b.places → IsHandedOn counted told a b → IsHandedOn counted told b c → IsHandedOn counted told a c
  on-then a b c same f s =
      let size : length b.handed ≡ length a.handed + length f.fresh = ap length f.handed ∙ length-append a.handed f.fresh in
      record {
        fresh = f.fresh ++ s.fresh;
        handed = s.handed ∙ (ap (λ (xs : List Change). xs ++ s.fresh) f.handed ∙ append_assoc a.handed f.fresh s.fresh);
        hears = record {
          as_many = s.hears.as_many ∙ f.hears.as_many;
          each = λ i d inside.
              let place : Option ℕ = place_at c.places i in
              let x : B = slice_index_or a.callbacks i d in
              let y : B = slice_index_or b.callbacks i d in
              let z : B = slice_index_or c.callbacks i d in
              let first : List Change = due (length a.handed) f.fresh place in
              let last : List Change = due (length a.handed + length f.fresh) s.fresh place in
              let one : HasHeard counted told x y (notifications first) =
              subst (λ (ps : List (Option ℕ)). HasHeard counted told x y (notifications (due (length a.handed) f.fresh (place_at ps i)))) (sym same) (f.hears.each i d inside) in
              let other : HasHeard counted told y z (notifications last) =
              subst (λ (n : ℕ). HasHeard counted told y z (notifications (due n s.fresh place))) size (s.hears.each i d (subst (λ (n : ℕ). i < n) (sym f.hears.as_many) inside)) in
              subst (HasHeard counted told x z) (sym (ap notifications (due-then (length a.handed) f.fresh s.fresh place) ∙ map-append notification_of first last))
              (HasHeard-then x y z (notifications first) (notifications last) one other);
        };
      }

  -- one batch
  pub on-batch : (from : ℕ) (batch : List Change) (old new : Listening B) → from ≡ length old.handed → new ≡ record old { callbacks = new.callbacks; handed = old.handed ++ batch }
      → EachHeard counted told (due from batch) old.places old.callbacks new.callbacks → IsHandedOn counted told old new
  on-batch from batch old new size is h = record {
    fresh = batch;
    handed = ap (λ (e : Listening B). e.handed) is;
    hears = subst (λ (ps : List (Option ℕ)). EachHeard counted told (due (length old.handed) batch) ps old.callbacks new.callbacks) (sym (ap (λ (e : Listening B). e.places) is))
        (subst (λ (n : ℕ). EachHeard counted told (due n batch) old.places old.callbacks new.callbacks) size h);
  }

  -- a place that was given before changes nothing of what is heard
  pub on-placed : (old placed new : Listening B) → placed.handed ≡ old.handed → placed.callbacks ≡ old.callbacks → IsHandedOn counted told placed new → IsHandedOn counted told old new
  on-placed old placed new handed callbacks h = record {
    fresh = h.fresh;
    handed = h.handed ∙ ap (λ (xs : List Change). xs ++ h.fresh) handed;
    hears = subst (λ (bs : List B). EachHeard counted told (due (length old.handed) h.fresh) new.places bs new.callbacks) callbacks
        (subst (λ (xs : List Change). EachHeard counted told (due (length xs) h.fresh) new.places placed.callbacks new.callbacks) handed h.hears);
  }

  -- ---- one pump after another

  module _ (earlier : ℕ) (config : Config) where
    pub along-then : (xs ys : List (List Entry)) (a b c : Listening B) → HeardAlong counted told earlier config xs a b → HeardAlong counted told earlier config ys b c → HeardAlong counted told earlier config (xs ++ ys) a c
    along-then [] ys a b c is k = subst (λ (e : Listening B). HeardAlong counted told earlier config ys e c) is k
    along-then (x ∷ xs) ys a b c h k = (h.0, h.1, along-then xs ys h.0 b c h.2 k)

    -- so far along all of these, of which these are left
    pub record HeardTo (all left : List (List Entry)) (before after : Listening B) : Type 0 where
      pub front : List (List Entry)
      pub whole : all ≡ front ++ left
      pub along : HeardAlong counted told earlier config front before after

    pub to-first : (all : List (List Entry)) (ears : Listening B) → HeardTo all all ears ears
    to-first all ears = record { front = []; whole = refl; along = refl }

    pub to-on : (all xs left : List (List Entry)) (a b c : Listening B) → HeardTo all (xs ++ left) a b → HeardAlong counted told earlier config xs b c → HeardTo all left a c
    to-on all xs left a b c t k = record {
      front = t.front ++ xs;
      whole = t.whole ∙ sym (append_assoc t.front xs left);
      along = along-then t.front xs a b c t.along k;
    }

    pub to-all : (all left : List (List Entry)) (a b : Listening B) → left ≡ [] → HeardTo all left a b → HeardAlong counted told earlier config all a b
    to-all all left a b none t =
        subst (λ (xs : List (List Entry)). HeardAlong counted told earlier config xs a b)
        (sym (t.whole ∙ (ap (λ (xs : List (List Entry)). t.front ++ xs) none ∙ append-nil t.front))) t.along

    pub to-part : (all left : List (List Entry)) (a b : Listening B) → HeardTo all left a b → HeardPart counted told earlier config all a b
    to-part all left a b t = record { front = t.front; rest = left; whole = t.whole; along = t.along }

    pub part-on : (all xs left : List (List Entry)) (a b c : Listening B) → HeardTo all (xs ++ left) a b → HeardPart counted told earlier config xs b c → HeardPart counted told earlier config all a c
    part-on all xs left a b c t p = record {
      front = t.front ++ p.front;
      rest = p.rest ++ left;
      whole = t.whole
          ∙ (ap (λ (l : List (List Entry)). t.front ++ (l ++ left)) p.whole
          ∙ (ap (λ (l : List (List Entry)). t.front ++ l) (append_assoc p.front p.rest left) ∙ sym (append_assoc t.front p.front (p.rest ++ left))));
      along = along-then t.front p.front a b c t.along p.along;
    }

    -- a part of the first ones is a part of all
    pub part-more : (xs ys : List (List Entry)) (a b : Listening B) → HeardPart counted told earlier config xs a b → HeardPart counted told earlier config (xs ++ ys) a b
    part-more xs ys a b p = part-on (xs ++ ys) xs ys a a b (to-first (xs ++ ys) a) p

    -- the first ones, and a part of those behind them
    pub part-then : (xs ys : List (List Entry)) (a b c : Listening B) → HeardAlong counted told earlier config xs a b → HeardPart counted told earlier config ys b c → HeardPart counted told earlier config (xs ++ ys) a c
    part-then xs ys a b c h p = record {
      front = xs ++ p.front;
      rest = p.rest;
      whole = ap (λ (l : List (List Entry)). xs ++ l) p.whole ∙ sym (append_assoc xs p.front p.rest);
      along = along-then xs p.front a b c h p.along;
    }

    -- none yet
    pub part-none : (all : List (List Entry)) (ears : Listening B) → HeardPart counted told earlier config all ears ears
    part-none all ears = to-part all all ears ears (to-first all ears)

  -- ---- at one of the pumps

  pub heard-at : (earlier : ℕ) (config : Config) (all : List (List Entry)) (i : ℕ) (a b : Listening B) → i < length all → HeardAlong counted told earlier config all a b → HeardAt counted told earlier config all i a b
  heard-at earlier config [] i a b inside k = absurd (omega (arith, inside))
  heard-at earlier config (h ∷ hs) zero a b inside k = record {
    here = k.0;
    front = (k.0, k.1, refl);
    begun = k.1.begun;
    heard = subst (λ (bs : List B). HearHistoryAfter counted told earlier config h bs k.0.callbacks) k.1.begun (current-heard-after earlier config h k.0 k.1.current);
    rest = k.2;
  }
  heard-at earlier config (h ∷ hs) (suc i) a b inside k =
      let r = heard-at earlier config hs i k.0 b (omega (arith, inside)) k.2 in
      record {
        here = r.here;
        front = (k.0, k.1, r.front);
        begun = r.begun ∙ k.1.begun;
        heard = subst (λ (bs : List B). HearHistoryAfter counted told earlier config (slice_index_or hs i []) bs r.here.callbacks) k.1.begun r.heard;
        rest = r.rest;
      }

  -- ---- lines and blocks

  served_by : Config → List Entry → Ledger
  served_by config history = record { config = config; history = history }

  -- what a play has come to that went on
  ledger-is : (start : Start) (config : Config) (old : View) (p : Playing) (new : View) → new.ledger.config ≡ config → new.start ≡ start → GoesTo old p new → new.ledger ≡ record { config = config; history = start.entries ++ p.entries }
  unfolding served_by
  ledger-is start config old p new config_is start_is goes =
      ap (λ (es : List Entry). served_by new.ledger.config es) goes.noted.whole
      ∙ (ap (λ (c : Config). served_by c (new.start.entries ++ (playing new).entries)) config_is
      ∙ (ap (λ (st : Start). served_by config (st.entries ++ (playing new).entries)) start_is
      ∙ ap (λ (q : Playing). served_by config (start.entries ++ q.entries)) goes.played))

  pub pump-of : (start : Start) (config : Config) (old : View) (p : Playing) (new : View) (a b : Listening B) → new.ledger.config ≡ config → new.start ≡ start → GoesTo old p new → b.begun ≡ a.begun → IsHandedOn counted told a b
      → AreCurrentAfter counted told new.start.callbacks new.ledger b → IsPumped counted told start.callbacks (record { config = config; history = start.entries ++ p.entries }) a b
  pump-of start config old p new a b config_is start_is goes begun further current = record {
    begun = begun;
    further = further;
    current = subst (λ (g : Ledger). AreCurrentAfter counted told start.callbacks g b) (ledger-is start config old p new config_is start_is goes)
        (subst (λ (st : Start). AreCurrentAfter counted told st.callbacks new.ledger b) start_is current);
  }

  -- a line further
  pub line-on : (start : Start) (config : Config) (s : Script) (crew : plays.Crew) (all : List (List Entry)) (old new : View) (ls : List Line) (i : ℕ) (l : Line) (a b c : Listening B) → drop i ls ≡ l ∷ drop (i + 1) ls
      → new.ledger.config ≡ config → new.start ≡ start → GoesTo old (play_line s crew (playing old) l) new → HeardTo start.callbacks config all (histories start.entries (after_lines s crew (playing old) (drop i ls))) a b
      → c.begun ≡ b.begun → IsHandedOn counted told b c → AreCurrentAfter counted told new.start.callbacks new.ledger c
      → HeardTo start.callbacks config all (histories start.entries (after_lines s crew (playing new) (drop (i + 1) ls))) a c
  line-on start config s crew all old new ls i l a b c is config_is start_is goes t begun further current =
      let next : Playing = play_line s crew (playing old) l in
      let here : List Entry = start.entries ++ next.entries in
      let left : List (List Entry) = histories start.entries (after_lines s crew next (drop (i + 1) ls)) in
      let to : HeardTo start.callbacks config all (here ∷ left) a b =
      subst (λ (xs : List Line). HeardTo start.callbacks config all (histories start.entries (after_lines s crew (playing old) xs)) a b) is t in
      let on : HeardTo start.callbacks config all left a c =
      to-on start.callbacks config all (here ∷ []) left a b c to (c, pump-of start config old next new b c config_is start_is goes begun further current, refl) in
      subst (λ (p : Playing). HeardTo start.callbacks config all (histories start.entries (after_lines s crew p (drop (i + 1) ls))) a c) (sym goes.played) on

  -- a block further, the blocks that are left lead to where all of them do
  pub record BlocksOn (s : Script) (names : List (List ℕ × Given)) (n : ℕ) (first new : View) (bs : List (List Line)) : Type 0 where
    pub played : plays.play_clients s names (n + 1) (playing new) bs ≡ plays.play_clients s names 1 (playing first) s.clients
    pub config : new.ledger.config ≡ first.ledger.config
    pub start : new.start ≡ first.start
    pub noted : IsNoted new

  pub blocks-on : (s : Script) (names : List (List ℕ × Given)) (n : ℕ) (crew : plays.Crew) (first old new : View) (left : List (List Line)) (b : List Line) (bs : List (List Line)) → crew ≡ plays.crew_of (length s.clients) n → left ≡ b ∷ bs
      → plays.play_clients s names n (playing old) left ≡ plays.play_clients s names 1 (playing first) s.clients → old.ledger.config ≡ first.ledger.config → old.start ≡ first.start
      → GoesTo old (play_lines s crew (record (playing old) { names = names }) b) new → BlocksOn s names n first new bs
  blocks-on s names n crew first old new left b bs who is leads config start goes = record {
    played = ap (λ (p : Playing). plays.play_clients s names (n + 1) p bs) (goes.played ∙ ap (λ (k : plays.Crew). play_lines s k (record (playing old) { names = names }) b) who)
        ∙ (sym (ap (plays.play_clients s names n (playing old)) is) ∙ leads);
    config = goes.config ∙ config;
    start = goes.start ∙ start;
    noted = goes.noted;
  }

  -- the lines of the first block, and those of the others
  client-lines : (start : Start) (s : Script) (names : List (List ℕ × Given)) (n : ℕ) (p : Playing) (b : List Line) (bs : List (List Line))
      → histories start.entries (after_client_lines s names n p (b ∷ bs))
      ≡ histories start.entries (after_lines s (plays.crew_of (length s.clients) n) (record p { names = names }) b)
      ++ histories start.entries (after_client_lines s names (n + 1) (play_lines s (plays.crew_of (length s.clients) n) (record p { names = names }) b) bs)
  client-lines start s names n p b bs =
      map-append (λ (q : Playing). start.entries ++ q.entries) (after_lines s (plays.crew_of (length s.clients) n) (record p { names = names }) b)
      (after_client_lines s names (n + 1) (play_lines s (plays.crew_of (length s.clients) n) (record p { names = names }) b) bs)

  module _ (start : Start) (config : Config) (s : Script) (names : List (List ℕ × Given)) (all : List (List Entry)) (old : View) (n : ℕ) (crew : plays.Crew) (left : List (List Line)) (b : List Line) (bs : List (List Line)) (e0 e1 e2 : Listening B)
      (who : crew ≡ plays.crew_of (length s.clients) n) (is : left ≡ b ∷ bs) (t : HeardTo start.callbacks config all (histories start.entries (after_client_lines s names n (playing old) left)) e0 e1) where
    lines : List (List Entry)
    lines = histories start.entries (after_lines s (plays.crew_of (length s.clients) n) (record (playing old) { names = names }) b)

    next : Playing
    next = play_lines s (plays.crew_of (length s.clients) n) (record (playing old) { names = names }) b

    to : HeardTo start.callbacks config all (lines ++ histories start.entries (after_client_lines s names (n + 1) next bs)) e0 e1
    unfolding lines next
    to = subst (λ (xs : List (List Entry)). HeardTo start.callbacks config all xs e0 e1)
        (ap (λ (l : List (List Line)). histories start.entries (after_client_lines s names n (playing old) l)) is ∙ client-lines start s names n (playing old) b bs) t

    -- a block further
    pub client-on : (new : View) → old.start ≡ start → old.ledger.config ≡ config → GoesTo old (play_lines s crew (record (playing old) { names = names }) b) new
        → HeardAlong counted told old.start.callbacks old.ledger.config (histories old.start.entries (after_lines s crew (record (playing old) { names = names }) b)) e1 e2
        → HeardTo start.callbacks config all (histories start.entries (after_client_lines s names (n + 1) (playing new) bs)) e0 e2
    unfolding lines next
    client-on new start_is config_is goes h =
        let here : HeardAlong counted told start.callbacks config lines e1 e2 =
        subst (λ (k : plays.Crew). HeardAlong counted told start.callbacks config (histories start.entries (after_lines s k (record (playing old) { names = names }) b)) e1 e2) who
        (subst (λ (c : Config). HeardAlong counted told start.callbacks c (histories start.entries (after_lines s crew (record (playing old) { names = names }) b)) e1 e2) config_is
        (subst (λ (st : Start). HeardAlong counted told st.callbacks old.ledger.config (histories st.entries (after_lines s crew (record (playing old) { names = names }) b)) e1 e2) start_is h)) in
        let played : next ≡ playing new = sym (goes.played ∙ ap (λ (k : plays.Crew). play_lines s k (record (playing old) { names = names }) b) who) in
        subst (λ (p : Playing). HeardTo start.callbacks config all (histories start.entries (after_client_lines s names (n + 1) p bs)) e0 e2) played
        (to-on start.callbacks config all lines (histories start.entries (after_client_lines s names (n + 1) next bs)) e0 e1 e2 to here)

    -- a part of it
    pub client-part : old.start ≡ start → old.ledger.config ≡ config
        → HeardPart counted told old.start.callbacks old.ledger.config (histories old.start.entries (after_lines s crew (record (playing old) { names = names }) b)) e1 e2
        → HeardPart counted told start.callbacks config all e0 e2
    unfolding lines next
    client-part start_is config_is h =
        let here : HeardPart counted told start.callbacks config lines e1 e2 =
        subst (λ (k : plays.Crew). HeardPart counted told start.callbacks config (histories start.entries (after_lines s k (record (playing old) { names = names }) b)) e1 e2) who
        (subst (λ (c : Config). HeardPart counted told start.callbacks c (histories start.entries (after_lines s crew (record (playing old) { names = names }) b)) e1 e2) config_is
        (subst (λ (st : Start). HeardPart counted told st.callbacks old.ledger.config (histories st.entries (after_lines s crew (record (playing old) { names = names }) b)) e1 e2) start_is h)) in
        part-on start.callbacks config all lines (histories start.entries (after_client_lines s names (n + 1) next bs)) e0 e1 e2 to here

  -- the lines of the setup block, and those of the clients' blocks
  block-lines : (before : List Entry) (s : Script) (p : Playing)
      → histories before (after_block_lines s p)
      ≡ histories before (after_lines s (plays.crew_of (length s.clients) 0) p (lines_of s.setup))
      ++ histories before (after_client_lines s (play_lines s (plays.crew_of (length s.clients) 0) p (lines_of s.setup)).names 1 (play_lines s (plays.crew_of (length s.clients) 0) p (lines_of s.setup)) s.clients)
  block-lines before s p =
      map-append (λ (q : Playing). before ++ q.entries) (after_lines s (plays.crew_of (length s.clients) 0) p (lines_of s.setup))
      (after_client_lines s (play_lines s (plays.crew_of (length s.clients) 0) p (lines_of s.setup)).names 1 (play_lines s (plays.crew_of (length s.clients) 0) p (lines_of s.setup)) s.clients)

  pub setup-part : (earlier : ℕ) (config : Config) (before : List Entry) (s : Script) (p : Playing) (a b : Listening B)
      → HeardPart counted told earlier config (histories before (after_lines s (plays.crew_of (length s.clients) 0) p (lines_of s.setup))) a b → HeardPart counted told earlier config (histories before (after_block_lines s p)) a b
  setup-part earlier config before s p a b h =
      let first : Playing = play_lines s (plays.crew_of (length s.clients) 0) p (lines_of s.setup) in
      subst (λ (xs : List (List Entry)). HeardPart counted told earlier config xs a b) (sym (block-lines before s p))
      (part-more earlier config (histories before (after_lines s (plays.crew_of (length s.clients) 0) p (lines_of s.setup))) (histories before (after_client_lines s first.names 1 first s.clients)) a b h)

  pub setup-whole : (earlier : ℕ) (config : Config) (before : List Entry) (s : Script) (p : Playing) (a b : Listening B)
      → HeardAlong counted told earlier config (histories before (after_lines s (plays.crew_of (length s.clients) 0) p (lines_of s.setup))) a b → HeardPart counted told earlier config (histories before (after_block_lines s p)) a b
  setup-whole earlier config before s p a b h =
      let all : List (List Entry) = histories before (after_lines s (plays.crew_of (length s.clients) 0) p (lines_of s.setup)) in
      setup-part earlier config before s p a b (record { front = all; rest = []; whole = sym (append-nil all); along = h })

  module _ (s : Script) (first mid : View) (names : List (List ℕ × Given)) (a b c : Listening B) (goes : GoesTo first (play_lines s (plays.crew_of (length s.clients) 0) (playing first) (lines_of s.setup)) mid) (same : names ≡ mid.names)
      (setup : HeardAlong counted told first.start.callbacks first.ledger.config (histories first.start.entries (after_lines s (plays.crew_of (length s.clients) 0) (playing first) (lines_of s.setup))) a b) where
    pub blocks-along : HeardAlong counted told mid.start.callbacks mid.ledger.config (histories mid.start.entries (after_client_lines s names 1 (playing mid) s.clients)) b c
        → HeardAlong counted told first.start.callbacks first.ledger.config (histories first.start.entries (after_block_lines s (playing first))) a c
    blocks-along h =
        let q : Playing = play_lines s (plays.crew_of (length s.clients) 0) (playing first) (lines_of s.setup) in
        let begun : HeardAlong counted told first.start.callbacks first.ledger.config (histories first.start.entries (after_client_lines s names 1 (playing mid) s.clients)) b c =
        subst (λ (k : Config). HeardAlong counted told first.start.callbacks k (histories first.start.entries (after_client_lines s names 1 (playing mid) s.clients)) b c) goes.config
        (subst (λ (st : Start). HeardAlong counted told st.callbacks mid.ledger.config (histories st.entries (after_client_lines s names 1 (playing mid) s.clients)) b c) goes.start h) in
        let here : HeardAlong counted told first.start.callbacks first.ledger.config (histories first.start.entries (after_client_lines s q.names 1 q s.clients)) b c =
        subst (λ (p : Playing). HeardAlong counted told first.start.callbacks first.ledger.config (histories first.start.entries (after_client_lines s p.names 1 p s.clients)) b c) goes.played
        (subst (λ (ns : List (List ℕ × Given)). HeardAlong counted told first.start.callbacks first.ledger.config (histories first.start.entries (after_client_lines s ns 1 (playing mid) s.clients)) b c) same begun) in
        subst (λ (xs : List (List Entry)). HeardAlong counted told first.start.callbacks first.ledger.config xs a c) (sym (block-lines first.start.entries s (playing first)))
        (along-then first.start.callbacks first.ledger.config (histories first.start.entries (after_lines s (plays.crew_of (length s.clients) 0) (playing first) (lines_of s.setup)))
        (histories first.start.entries (after_client_lines s q.names 1 q s.clients)) a b c setup here)

    pub blocks-part : HeardPart counted told mid.start.callbacks mid.ledger.config (histories mid.start.entries (after_client_lines s names 1 (playing mid) s.clients)) b c
        → HeardPart counted told first.start.callbacks first.ledger.config (histories first.start.entries (after_block_lines s (playing first))) a c
    blocks-part h =
        let q : Playing = play_lines s (plays.crew_of (length s.clients) 0) (playing first) (lines_of s.setup) in
        let begun : HeardPart counted told first.start.callbacks first.ledger.config (histories first.start.entries (after_client_lines s names 1 (playing mid) s.clients)) b c =
        subst (λ (k : Config). HeardPart counted told first.start.callbacks k (histories first.start.entries (after_client_lines s names 1 (playing mid) s.clients)) b c) goes.config
        (subst (λ (st : Start). HeardPart counted told st.callbacks mid.ledger.config (histories st.entries (after_client_lines s names 1 (playing mid) s.clients)) b c) goes.start h) in
        let here : HeardPart counted told first.start.callbacks first.ledger.config (histories first.start.entries (after_client_lines s q.names 1 q s.clients)) b c =
        subst (λ (p : Playing). HeardPart counted told first.start.callbacks first.ledger.config (histories first.start.entries (after_client_lines s p.names 1 p s.clients)) b c) goes.played
        (subst (λ (ns : List (List ℕ × Given)). HeardPart counted told first.start.callbacks first.ledger.config (histories first.start.entries (after_client_lines s ns 1 (playing mid) s.clients)) b c) same begun) in
        subst (λ (xs : List (List Entry)). HeardPart counted told first.start.callbacks first.ledger.config xs a c) (sym (block-lines first.start.entries s (playing first)))
        (part-then first.start.callbacks first.ledger.config (histories first.start.entries (after_lines s (plays.crew_of (length s.clients) 0) (playing first) (lines_of s.setup)))
        (histories first.start.entries (after_client_lines s q.names 1 q s.clients)) a b c setup here)

  -- ---- the whole play

  -- the changes from before the play are passed over
  first-pump : (ledger : Ledger) (v : View) (a b : Listening B) → v ≡ unplayed ledger → b.begun ≡ a.begun → IsHandedOn counted told a b → AreCurrentAfter counted told v.start.callbacks v.ledger b
      → IsPumped counted told (registrations_of ledger.config ledger.history) (record { config = ledger.config; history = ledger.history ++ [] }) a b
  first-pump ledger v a b is begun further current = record {
    begun = begun;
    further = further;
    current = subst (λ (es : List Entry). AreCurrentAfter counted told (registrations_of ledger.config ledger.history) (record { config = ledger.config; history = es }) b) (sym (append-nil ledger.history))
        (subst (λ (u : View). AreCurrentAfter counted told u.start.callbacks u.ledger b) is current);
  }

  module _ (ledger : Ledger) (s : Script) (v : View) (a b c : Listening B) (is : v ≡ unplayed ledger) (begun : b.begun ≡ a.begun) (further : IsHandedOn counted told a b) (current : AreCurrentAfter counted told v.start.callbacks v.ledger b) where
    pub play-along : HeardAlong counted told v.start.callbacks v.ledger.config (histories v.start.entries (after_block_lines s (opening_in (now_of v.ledger)))) b c → HeardPlay counted told ledger s a c
    play-along h = (
      b,
      first-pump ledger v a b is begun further current,
      subst (λ (u : View). HeardAlong counted told u.start.callbacks u.ledger.config (histories u.start.entries (after_block_lines s (opening_in (now_of u.ledger)))) b c) is h,
    )

    pub play-part : HeardPart counted told v.start.callbacks v.ledger.config (histories v.start.entries (after_block_lines s (opening_in (now_of v.ledger)))) b c → HeardPlayPart counted told ledger s a c
    play-part h =
        part-then (registrations_of ledger.config ledger.history) ledger.config ((ledger.history ++ []) ∷ []) (histories ledger.history (after_block_lines s (opening_in (now_of ledger)))) a b c
        (b, first-pump ledger v a b is begun further current, refl)
        (subst (λ (u : View). HeardPart counted told u.start.callbacks u.ledger.config (histories u.start.entries (after_block_lines s (opening_in (now_of u.ledger)))) b c) is h)
