-- The laws of the JSON form.
use Rattle.std.proofs.Common.{◌≡◌, ℕ, Bool, false, ◌||◌, List, [], ◌∷◌, ◌++◌, refl, ap, ◌∙◌, append_assoc}
use Rattle.drmaa_types.specs.declared.queues.QueueSpec.{QueueSpec}
use Rattle.drmaa_model.specs.declared.configs.Config.{Config}
use Rattle.serde_json.specs.Written.{has_float, items_have_float}
use Rattle.journal_json.specs.Documents.{queues_data, machine_data}
use Rattle.serde_json.specs.Data.{Items, no_items, item}
use Rattle.serde_json.specs.View.{view, items_view}
use Rattle.serde_json.specs.declared.value.Value.{Value}

-- these values, and then those items
unfoldable pub joined : List Value → Items → Items
joined [] ds = ds
joined (v ∷ vs) ds = item (view v) (joined vs ds)

pub joined_last : (vs : List Value) (v : Value) (ds : Items) → joined (vs ++ v ∷ []) ds ≡ joined vs (item (view v) ds)
unfolding joined
joined_last [] v ds = refl
joined_last (w ∷ vs) v ds = ap (item (view w)) (joined_last vs v ds)

pub joined_none : (vs : List Value) → joined vs no_items ≡ items_view vs
unfolding joined
joined_none [] = refl
joined_none (v ∷ vs) = ap (item (view v)) (joined_none vs)

pub joined_first : (ds : Items) → joined [] ds ≡ ds
unfolding joined
joined_first ds = refl

-- no number of a machine is a float
queues_whole : (qs : List QueueSpec) → items_have_float (queues_data qs) ≡ false
queues_whole [] = refl
queues_whole (q ∷ qs) = queues_whole qs

pub machine_whole : (c : Config) → has_float (machine_data c) ≡ false
machine_whole c = ap (λ (b : Bool). b || false) (queues_whole c.queues)

-- the parts of the text
pub parts : (front entries between machine last : List ℕ) → (((front ++ entries) ++ between) ++ machine) ++ last ≡ front ++ (entries ++ (between ++ (machine ++ last)))
parts front entries between machine last =
    append_assoc ((front ++ entries) ++ between) machine last ∙ append_assoc (front ++ entries) between (machine ++ last) ∙ append_assoc front entries (between ++ (machine ++ last))
