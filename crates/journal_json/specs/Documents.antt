-- The JSON form of a journal: one object, its keys in byte order. Our profile.
use Rattle.std.specs.Prelude.{ℕ, ◌+◌, List, [], ◌∷◌, codes}
use Rattle.drmaa_types.specs.declared.queues.QueueSpec.{QueueSpec}
use Rattle.drmaa_model.specs.declared.configs.Config.{Config}
use Rattle.drmaa_model.specs.declared.entries.Entry.{Entry}
use Rattle.journal_forms.specs.Calls.{calls}
use Rattle.journal_forms.specs.Replies.{replies}
use Rattle.serde_json.specs.Data.{Data, boolean, number, string, array, object, unsigned, Items, no_items, item, no_members, member}
use Rattle.serde_json.specs.Written.{compact_text}

-- an entry, with its number: its call and its reply as a journal spells them
abbrev pub entry_data : ℕ → Entry → Data
entry_data n e =
    object (member (codes "at") (number (unsigned e.at))
    (member (codes "call") (string (calls.body.spell e.call))
    (member (codes "caller") (number (unsigned e.caller.0))
    (member (codes "n") (number (unsigned n))
    (member (codes "reply") (string (replies.spell e.reply)) no_members)))))

-- the entries, numbered from n on
abbrev pub entries_data : ℕ → List Entry → Items
entries_data n [] = no_items
entries_data n (e ∷ es) = item (entry_data n e) (entries_data (n + 1) es)

-- a queue
abbrev pub queue_data : QueueSpec → Data
queue_data q =
    object (member (codes "limit") (number (unsigned q.limit))
    (member (codes "name") (string q.name) no_members))

abbrev pub queues_data : List QueueSpec → Items
queues_data [] = no_items
queues_data (q ∷ qs) = item (queue_data q) (queues_data qs)

-- a machine, with its queues in their order
abbrev pub machine_data : Config → Data
machine_data c =
    object (member (codes "name") (string c.name)
    (member (codes "queues") (array (queues_data c.queues))
    (member (codes "slots") (number (unsigned c.slots))
    (member (codes "suspend") (boolean c.suspend) no_members))))

abbrev pub journal_data : Config → List Entry → Data
journal_data c es =
    object (member (codes "entries") (array (entries_data 1 es))
    (member (codes "machine") (machine_data c) no_members))

-- the JSON form: that object, without blanks
unfoldable pub json_form : Config → List Entry → List ℕ
json_form c es = compact_text (journal_data c es)
