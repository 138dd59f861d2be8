-- P8, P11 and P12 hold, and what is said of stippled and tiled blits.
-- Assumes nothing.
use mathlib.Core.Path.{refl}
use Rattle.entries.specs.Layout.{decoded_of}
use Rattle.entries.specs.Fields.{length_of}
use Rattle.entries.specs.Legality.{cmd_legal, pctrl_legal, data_legal}
use Rattle.entries.specs.Examples.{P8, P11, P12, StipplesAreLegal, TilesAreLegal}

pub p8 : P8
unfolding pctrl_legal length_of
p8 = (refl, refl, refl, refl)

pub p11 : P11
unfolding data_legal cmd_legal pctrl_legal length_of
p11 = (refl, refl)

pub p12 : P12
unfolding decoded_of data_legal cmd_legal pctrl_legal length_of
p12 = (refl, refl, refl, refl)

pub stipples-are-legal : StipplesAreLegal
unfolding cmd_legal
stipples-are-legal = (refl, refl, refl, refl, refl, refl, refl, refl, refl)

pub tiles-are-legal : TilesAreLegal
unfolding cmd_legal
tiles-are-legal = (refl, refl, refl, refl, refl, refl, refl, refl, refl, refl, refl, refl)
