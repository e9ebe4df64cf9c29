-- Shown: the samples, by computing.
use Rattle.std.proofs.Common.{refl}
use Rattle.cost.specs.OctileLaws.{same_octile}
use Rattle.hierarchy.specs.Samples.{Samples, SeasonSamples}

pub samples : Samples
samples = record {
  a_levels = refl;
  b_levels = refl;
  b_shortcuts = refl;
  c_levels = refl;
  c_two = refl;
  c_one = refl;
  c_tally = refl;
  d_levels = refl;
  e_shortcuts = refl;
  e_there = refl;
  e_back = refl;
  f_levels = refl;
  f_direct = refl;
  f_aside = refl;
  f_around = refl;
  g_less = refl;
  g_more = refl;
  g_over = same_octile _ _ refl refl;
  h_places = refl;
  h_tally = refl;
}

pub season_samples : SeasonSamples
season_samples = record {
  own_rules = refl;
  equal_walks = refl;
  one_place = refl;
  refused_list = refl;
  either_state = refl;
  on_a_draft = refl;
  checks_in_order = refl;
  blocked_and_shut = refl;
  no_cut_corner = refl;
  table_left = refl;
}
