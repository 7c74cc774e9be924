-- The edits of a design that arguments represent: `shift=DX,DY`, `turn=Q`, `mirror=x`, `mirror=y`
-- and `thread=P,T`, `tie`, `tie=N`, `bare`, `centre`, `cut=N`, `float=N`, `merge=N`, `bean=K`,
-- `scale=P`, `drop-empty`, `thumbnails` and `name=W`.
use Rattle.std.specs.Prelude.{ℕ, ◌&&◌, Bool, List, [], Option, Some, None, bytes_eq, codes, length, nat_le, option_map, unwrap_or, if◌then◌else◌}
use Rattle.std.specs.List.{list_all}
use Rattle.command_words.specs.Arguments.{all_parsed, equals_sign, natural_within, parsed_edit}
use Rattle.command_words.specs.Changes.{Change, move, thread}
use Rattle.design_model.specs.declared.design.TheConstants.{MAX_LABEL}
use Rattle.design_model.specs.WholeNumbers.{parsed_whole}
use Rattle.edited_designs.specs.declared.edit_keys.EditKey.{EditKey}
use Rattle.edited_designs.specs.declared.edit_keys.TheConstants.{DEFAULT_TIE}
use Rattle.edited_designs.specs.DesignChanges.{DesignChange, bared, centred, moved, named, needled, pictured, threaded, tied}
use Rattle.edited_designs.specs.EditKeys.{change_by, least_of, most_of, named_key}
use Rattle.text_parts.specs.Parts.{split_at_byte}

-- The edit without a value of that name, if there is one.
abbrev pub plain_change : List ℕ → Option DesignChange
plain_change word =
    if bytes_eq word (codes "tie") then Some (tied DEFAULT_TIE)
    else (if bytes_eq word (codes "bare") then Some bared
    else (if bytes_eq word (codes "centre") then Some centred
    else (if bytes_eq word (codes "drop-empty") then Some needled
    else (if bytes_eq word (codes "thumbnails") then Some pictured
    else None))))

-- The test whether a byte can be shown in a label.
abbrev pub is_label_byte : ℕ → Bool
is_label_byte byte = nat_le 32 byte && nat_le byte 126

-- The change of the label, if the text is short and printable.
abbrev pub named_if_label : List ℕ → Option DesignChange
named_if_label label = if nat_le (length label) MAX_LABEL && list_all is_label_byte label
    then Some (named label) else None

-- The edit of a design that an edit of the program stitch is.
abbrev pub known_change : Option Change → Option DesignChange
known_change None = None
known_change (Some (move by)) = Some (moved by)
known_change (Some (thread place number)) = Some (threaded place number)
known_change (Some other) = None

-- The edit by a value, given the key of its name, if it has one, and else the whole argument.
abbrev pub keyed_change : Option EditKey → (word name value : List ℕ) → Option DesignChange
keyed_change (Some key) word name value =
    option_map (change_by key) (natural_within (least_of key) (most_of key) (parsed_whole value))
keyed_change None word name value =
    if bytes_eq name (codes "name") then named_if_label value else known_change (parsed_edit word)

-- The edit of an argument, given its parts before and after the equals sign.
abbrev pub parsed_change_parts : List ℕ → Option (List ℕ × List ℕ) → Option DesignChange
parsed_change_parts word None = plain_change word
parsed_change_parts word (Some (name, value)) = keyed_change (named_key name) word name value

-- The edit of a design that an argument represents, if it represents one.
abbrev pub parsed_change : List ℕ → Option DesignChange
parsed_change word = parsed_change_parts word (split_at_byte equals_sign word)

-- The edits that arguments represent, if each of them is an edit of a design.
abbrev pub parsed_changes : List (List ℕ) → Option (List DesignChange)
parsed_changes words = all_parsed parsed_change words

-- The edits that arguments represent, or none where one of them represents no edit.
abbrev pub changes_of : List (List ℕ) → List DesignChange
changes_of words = unwrap_or (parsed_changes words) []
