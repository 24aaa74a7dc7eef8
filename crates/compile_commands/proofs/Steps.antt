-- What the steps of compiling answer, put together to what the run says.
use Rattle.plan_base.proofs.Common.{ℕ, inl, inr, List, refl, sym, subst, Result}
use Rattle.plan_base.specs.{ShelfMeaning, IsLater, SinkMeaning, Stays, Caps}
use Rattle.service_days.specs.DaysMeaning.{DaysMeaning}
use Rattle.opl_reader.specs.{ObjectLists.ObjectLists, OplFault}
use Rattle.gtfs_tables.specs.{FeedLists.FeedLists, FeedFault}
use Rattle.mode_network.specs.NetworkLists.{NetworkLists}
use Rattle.run_steps.specs.{Outcome, Done, Usage, Missing, ReadFault, TooLong, WriteFault, BadRegion, BadFeed, Invalid, BadCertificate, BadHierarchy, Unsound, OutOfMemory, scene, Saying}
use Rattle.run_steps.specs.declared.outcome.SourceFault.TheVariants as source
use Rattle.run_steps.proofs.Steps.{not_earlier}
use Rattle.compile_commands.specs.{OnObjects, OnMap, OnLists, OnFeed, OnBuild, inside.HasMap, inside.HasFeed, inside.IsMapOutcome, inside.IsFeedOutcome, inside.IsBuildOutcome}

module _ (caps : Caps) (old mid new : ShelfMeaning) (before after : SinkMeaning) (name : List ℕ) where
  -- the map was not read
  pub map_fails : (rest : ObjectLists → Saying) (outcome : Outcome) → IsMapOutcome caps old new name outcome → Stays before after
      → OnMap caps name rest (scene old before) (scene new after) outcome
  map_fails rest (BadFeed (source.Opl fault)) (inl shows) same = inl (fault, shows, (refl, same))
  map_fails rest (BadFeed (source.Opl fault)) (inr bad) same = inr (inr (record {
    bytes = bad.bytes;
    file = bad.file;
    mid = old;
    later = not_earlier old;
    says = subst (λ (r : Result ObjectLists OplFault). OnObjects r rest (scene old before) (scene new after) (BadFeed (source.Opl fault))) (sym bad.first) (refl, same);
  }))
  map_fails rest (BadFeed (source.Feed fault)) none same = absurd none
  map_fails rest (BadFeed (source.Build fault)) none same = absurd none
  map_fails rest OutOfMemory unread same = inr (inl (unread, same))
  map_fails rest (Missing file) unread same = inr (inl (unread, same))
  map_fails rest (ReadFault file) unread same = inr (inl (unread, same))
  map_fails rest (TooLong file) unread same = inr (inl (unread, same))
  map_fails rest Done none same = absurd none
  map_fails rest Usage none same = absurd none
  map_fails rest WriteFault none same = absurd none
  map_fails rest (BadRegion fault) none same = absurd none
  map_fails rest (Invalid clause at) none same = absurd none
  map_fails rest (BadCertificate line) none same = absurd none
  map_fails rest (BadHierarchy fault) none same = absurd none
  map_fails rest (Unsound clause at by) none same = absurd none

  -- it was, and the rest says this
  pub on_map : (rest : ObjectLists → Saying) (objects : ObjectLists) → HasMap caps old name objects → IsLater old mid
      → (outcome : Outcome) → rest objects (scene mid before) (scene new after) outcome → OnMap caps name rest (scene old before) (scene new after) outcome
  on_map rest objects has later outcome says = inr (inr (record {
    bytes = has.bytes;
    file = has.file;
    mid = mid;
    later = later;
    says = subst (λ (r : Result ObjectLists OplFault). OnObjects r rest (scene mid before) (scene new after) outcome) (sym has.spells) says;
  }))

  -- the feed was not read
  pub feed_fails : (rest : FeedLists → Saying) (outcome : Outcome) → IsFeedOutcome caps old new name outcome → Stays before after
      → OnFeed caps name rest (scene old before) (scene new after) outcome
  feed_fails rest (BadFeed (source.Feed fault)) bad same = inr (record {
    texts = bad.texts;
    read = bad.read;
    mid = old;
    later = not_earlier old;
    says = subst (λ (r : Result FeedLists FeedFault). OnLists r rest (scene old before) (scene new after) (BadFeed (source.Feed fault))) (sym bad.first) (refl, same);
  })
  feed_fails rest (BadFeed (source.Opl fault)) unread same = inl (unread, same)
  feed_fails rest (BadFeed (source.Build fault)) unread same = inl (unread, same)
  feed_fails rest OutOfMemory unread same = inl (unread, same)
  feed_fails rest (Missing file) unread same = inl (unread, same)
  feed_fails rest (ReadFault file) unread same = inl (unread, same)
  feed_fails rest (TooLong file) unread same = inl (unread, same)
  feed_fails rest Done unread same = inl (unread, same)
  feed_fails rest Usage unread same = inl (unread, same)
  feed_fails rest WriteFault unread same = inl (unread, same)
  feed_fails rest (BadRegion fault) unread same = inl (unread, same)
  feed_fails rest (Invalid clause at) unread same = inl (unread, same)
  feed_fails rest (BadCertificate line) unread same = inl (unread, same)
  feed_fails rest (BadHierarchy fault) unread same = inl (unread, same)
  feed_fails rest (Unsound clause at by) unread same = inl (unread, same)

  -- it was, and the rest says this
  pub on_feed : (rest : FeedLists → Saying) (feed : FeedLists) → HasFeed caps old name feed → IsLater old mid
      → (outcome : Outcome) → rest feed (scene mid before) (scene new after) outcome → OnFeed caps name rest (scene old before) (scene new after) outcome
  on_feed rest feed has later outcome says = inr (record {
    texts = has.texts;
    read = has.read;
    mid = mid;
    later = later;
    says = subst (λ (r : Result FeedLists FeedFault). OnLists r rest (scene mid before) (scene new after) outcome) (sym has.spells) says;
  })

-- the map and the feed gave no region
module _ (caps : Caps) (old new : ShelfMeaning) (before after : SinkMeaning) (objects : ObjectLists) (feed : FeedLists) (days : DaysMeaning) where
  pub build_fails : (rest : NetworkLists → Saying) (outcome : Outcome) → IsBuildOutcome caps objects feed days outcome → Stays before after
      → OnBuild caps objects feed days rest (scene old before) (scene new after) outcome
  build_fails rest (BadFeed (source.Build fault)) has same = inl (fault, has, (refl, same))
  build_fails rest (BadFeed (source.Opl fault)) none same = absurd none
  build_fails rest (BadFeed (source.Feed fault)) none same = absurd none
  build_fails rest OutOfMemory none same = inr (inl (refl, same))
  build_fails rest (Missing file) none same = absurd none
  build_fails rest (ReadFault file) none same = absurd none
  build_fails rest (TooLong file) none same = absurd none
  build_fails rest Done none same = absurd none
  build_fails rest Usage none same = absurd none
  build_fails rest WriteFault none same = absurd none
  build_fails rest (BadRegion fault) none same = absurd none
  build_fails rest (Invalid clause at) none same = absurd none
  build_fails rest (BadCertificate line) none same = absurd none
  build_fails rest (BadHierarchy fault) none same = absurd none
  build_fails rest (Unsound clause at by) none same = absurd none
