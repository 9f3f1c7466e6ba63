-- Pieces without their offsets.
use Rattle.std.specs.Prelude.{ℕ, List, [], ◌∷◌, map}
use Rattle.std.specs.List.{flat_map}
use Rattle.std.specs.Str.{chars}
use Rattle.escape_stream.specs.Pieces as stream
use Rattle.escape_stream.specs.StreamAction.{StreamAction, print}

-- a text, as bytes, or an action by itself
pub data Item : Type 0 where
  Text : List ℕ → Item
  Single : StreamAction → Item

abbrev pub item_of : stream.Piece → Item
item_of (stream.Text from text) = Text text
item_of (stream.Single a) = Single a

abbrev pub items_of : List stream.Piece → List Item
items_of pieces = map item_of pieces

-- the items that a call with these bytes hands out after a stream
abbrev pub items : List ℕ → List ℕ → List Item
items before bytes = items_of (stream.pieces before bytes)

-- the actions of items: a text prints its characters
abbrev pub actions_of_item : Item → List StreamAction
actions_of_item (Text text) = map print (chars text)
actions_of_item (Single a) = a ∷ []

abbrev pub actions_of_items : List Item → List StreamAction
actions_of_items items = flat_map actions_of_item items
