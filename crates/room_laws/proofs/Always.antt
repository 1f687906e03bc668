-- The laws of every run without a premise on its log: what a schedule spells leads to trees that are read again.
use Rattle.room_laws.specs.Always.{AlwaysShows, AlwaysOnce, AlwaysTaken, AlwaysServed}
use Rattle.room_laws.specs.Validity.{ReadableRun}
use Rattle.room_laws.proofs.Refusals.{each_taken}
use Rattle.room_laws.proofs.Spared.{each_served}
use Rattle.room_laws.proofs.Whole.{each_shows, each_once}

module _ (reads : ReadableRun) where
  pub always_shows : AlwaysShows
  always_shows s ls c t h l u e = each_shows s ls c t (reads s ls h l) u e

  pub always_once : AlwaysOnce
  always_once s ls c h l u = each_once s ls c (reads s ls h l) u

  pub always_taken : AlwaysTaken
  always_taken s ls c k m ms h l = each_taken s ls c k m ms (reads s ls h l)

  pub always_served : AlwaysServed
  always_served s ls c k v u us h l = each_served s ls c k v u us (reads s ls h l)
