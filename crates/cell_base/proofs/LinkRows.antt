-- Rows that compute: the text of a link, and the readings of some texts.
use Rattle.std.proofs.Common.{◌≡◌, refl, codes, [], ◌∷◌, false}
use Rattle.std.specs.Prelude.{Some, None, Ok, Err}
use Rattle.cell_base.specs.LinkText.{link_text, link_reading, texts_reading}
use Rattle.cell_base.specs.Link.{Link}
use Rattle.cell_base.specs.declared.link_error.LinkError.TheVariants.{PartCount, Utf8, Params}
use Rattle.std.specs.Str.{is_utf8, chars}
use lib.Utf8.{encode}

abbrev with_id : Link
with_id = record { params = (codes "id", codes "1") ∷ []; uri = codes "u"; implicit = false }

abbrev of_two : Link
of_two = record { params = (codes "a", codes "1") ∷ (codes "b", codes "2") ∷ []; uri = codes "u"; implicit = false }

row_text : link_text of_two ≡ codes "8;a=1:b=2;u"
unfolding link_text
row_text = refl

row_id : link_reading (codes "8" ∷ codes "id=1" ∷ codes "u" ∷ []) ≡ Ok (Some with_id)
unfolding link_reading texts_reading is_utf8 chars encode
row_id = refl

row_order : link_reading (codes "8" ∷ codes "b=2:a=3:a=1" ∷ codes "u" ∷ []) ≡ Ok (Some of_two)
unfolding link_reading texts_reading is_utf8 chars encode
row_order = refl

row_first : link_reading (codes "8" ∷ codes "a=b=c" ∷ codes "u" ∷ []) ≡ Ok (Some (record { params = (codes "a", codes "b=c") ∷ []; uri = codes "u"; implicit = false }))
unfolding link_reading texts_reading is_utf8 chars encode
row_first = refl

row_more : link_reading ([] ∷ [] ∷ codes "a" ∷ codes "b" ∷ []) ≡ Ok (Some (record { params = []; uri = codes "a;b"; implicit = false }))
unfolding link_reading texts_reading is_utf8 chars encode
row_more = refl

row_none : link_reading (codes "8" ∷ [] ∷ [] ∷ []) ≡ Ok None
unfolding link_reading texts_reading is_utf8 chars encode
row_none = refl

row_params : link_reading (codes "8" ∷ codes "a" ∷ codes "u" ∷ []) ≡ Err Params
unfolding link_reading texts_reading is_utf8 chars encode
row_params = refl

row_utf8 : link_reading (codes "8" ∷ codes "a" ∷ (255 ∷ []) ∷ []) ≡ Err Utf8
unfolding link_reading texts_reading is_utf8 chars encode
row_utf8 = refl

row_count : link_reading (codes "8" ∷ codes "a" ∷ []) ≡ Err PartCount
unfolding link_reading
row_count = refl
