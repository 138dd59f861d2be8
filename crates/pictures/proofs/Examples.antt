-- The headers and pictures of specs/Examples.antt, computed.
-- Assumes nothing.
use mathlib.Core.Path.{refl}
use Rattle.pictures.specs.Texts.{without_comments, take_while, drop_while, reads}
use Rattle.pictures.specs.Pictures.{is_picture, decimal_by, decimal_of, header_of}
use Rattle.pictures.specs.Writing.{written_of}
use Rattle.pictures.specs.Reading.{read_of}
use Rattle.pictures.specs.Examples.{Numbers, Comments, LargeNumbers, Pictures, Refused, WrittenPictures}

pub numbers : Numbers
unfolding without_comments take_while drop_while reads
numbers = (refl, refl, refl, refl, refl, refl)

pub comments : Comments
unfolding without_comments take_while drop_while reads
comments = (refl, refl, refl, refl, refl, refl)

pub large-numbers : LargeNumbers
unfolding without_comments take_while drop_while reads
large-numbers = (refl, refl)

pub pictures : Pictures
unfolding without_comments take_while drop_while reads is_picture read_of
pictures = (refl, refl, refl, refl, refl)

pub refused : Refused
unfolding without_comments take_while drop_while reads is_picture read_of
refused = (refl, refl, refl, refl, refl)

pub written-pictures : WrittenPictures
unfolding decimal_by decimal_of header_of written_of
written-pictures = (refl, refl, refl)
