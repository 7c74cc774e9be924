-- The entries of a store in memory: for each name its file, if any, and its room.
use Rattle.std.specs.Prelude.{ℕ, ◌+◌, Bool, List, [], ◌∷◌, ◌++◌, length, Option, Some, if◌then◌else◌, nat_lt, max, unwrap_or, option_map, option_and_then, find, bytes_eq}

-- An entry: a name, the content of its file, if any, and its room in bytes.
pub record EntryValue : Type 0 where
  pub name : List ℕ
  pub content : Option (List ℕ)
  pub room : ℕ

-- The entry of a name, if there is one.
abbrev pub entry_in : List EntryValue → List ℕ → Option EntryValue
entry_in entries name = find (λ e. bytes_eq e.name name) entries

-- The content of the file of a name, if there is one.
abbrev pub file_in : List EntryValue → List ℕ → Option (List ℕ)
file_in entries name = option_and_then (λ e. e.content) (entry_in entries name)

-- The room of a name, if it has an entry.
abbrev pub room_in : List EntryValue → List ℕ → Option ℕ
room_in entries name = option_map (λ e. e.room) (entry_in entries name)

-- The entries with one entry replaced by name, or added at the end.
abbrev pub with_entry : List EntryValue → EntryValue → List EntryValue
with_entry [] entry = entry ∷ []
with_entry (e ∷ rest) entry = if bytes_eq e.name entry.name then entry ∷ rest else e
    ∷ with_entry rest entry

-- The room raised to at least a minimum.
abbrev pub raised_room : Option ℕ → ℕ → ℕ
raised_room room least = max (unwrap_or room 0) least

-- The entries in which the named file has this content, and its room is unchanged.
abbrev pub with_content : List EntryValue → List ℕ → List ℕ → List EntryValue
with_content entries name content =
    with_entry entries (record {
      name = name;
      content = Some content;
      room =
          unwrap_or (room_in entries name) 0;
    })

-- The entries in which these bytes are appended to the named file.
abbrev pub with_bytes_appended : List EntryValue → List ℕ → List ℕ → List EntryValue
with_bytes_appended entries name bytes = with_content entries name
    (unwrap_or (file_in entries name) [] ++ bytes)

-- The entries in which the named file has this content, and room for it.
abbrev pub with_file : List EntryValue → List ℕ → List ℕ → List EntryValue
with_file entries name content =
    with_entry entries (record {
      name = name;
      content = Some content;
      room =
          raised_room (room_in entries name) (length content);
    })

-- The entries in which the name has at least that room.
abbrev pub with_room : List EntryValue → List ℕ → ℕ → List EntryValue
with_room entries name room =
    with_entry entries (record {
      name = name;
      content = file_in entries name;
      room =
          raised_room (room_in entries name) room;
    })

-- The test whether the bytes exceed the room of the named file.
abbrev pub exceeds_room : List EntryValue → List ℕ → List ℕ → Bool
exceeds_room entries name bytes =
    nat_lt (unwrap_or (room_in entries name) 0)
    (length (unwrap_or (file_in entries name) []) + length bytes)
