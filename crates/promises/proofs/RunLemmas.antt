-- What a run has read and written that did all of its work.
use Rattle.plan_base.proofs.Common.{◌≡◌, ℕ, ◌≤◌, ◌∙◌, inl, inr, List, ◌++◌, length, Option, Some, None, sym, subst, ⊤, IfSome, append_cancel_left, same_Some}
use Rattle.plan_base.specs.{ShelfMeaning, Told, SinkMeaning, Appended, Caps}
use Rattle.mode_network.specs.{NetworkLists.NetworkLists, IsNetwork}
use Rattle.hierarchy.specs.{HierarchyLists}
use Rattle.run_steps.specs.{FileRole, Region, Hierarchy, Done, with_shelf, Saying, OnFile, most_of, OnNetwork, OnRegion, SpellThis, Files, IsRegionHeld, Scene.Scene}
use Rattle.hierarchy_commands.specs.{OnSound, OnHierarchyIfNamed, IsSoundIfNamed}
use Rattle.promises.specs.{StaysIfNamed}

-- what a shelf tells of its files
pub told_of : (shelf : ShelfMeaning) (files : Files) (name : List ℕ) → shelf.files ≡ Some files → (P : Option (List ℕ) → Type 0) → Told shelf name P → P (files name)
told_of shelf files name tells P told = subst (λ (f : Option Files). IfSome f (λ g. P (g name))) tells told

-- one output was appended
pub same_output : (old new : SinkMeaning) (before one other : List ℕ) → old.bytes ≡ Some before → Appended old new one → new.bytes ≡ Some (before ++ other) → one ≡ other
same_output old new before one other stood appended stands =
    let there = subst (λ (o : Option (List ℕ)). IfSome o (λ bytes. new.bytes ≡ Some (bytes ++ one))) stood appended in
    append_cancel_left before one other (same_Some (before ++ one) (before ++ other) (sym there ∙ stands))

module _ (files : Files) where
  -- a file was read, and the rest was done
  pub record DidRead (role : FileRole) (name : List ℕ) (rest : List ℕ → Saying) (old new : Scene ⊤) : Type 0 where
    pub bytes : List ℕ
    pub held : files name ≡ Some bytes
    pub within : length bytes ≤ most_of role
    pub mid : ShelfMeaning
    pub tells : mid.files ≡ Some files
    pub says : rest bytes (with_shelf old mid) new Done

  pub file_done : (file : FileRole) (name : List ℕ) (rest : List ℕ → Saying) (old new : Scene ⊤) → old.shelf.files ≡ Some files
      → OnFile file name rest old new Done → DidRead file name rest old new
  file_done file name rest old new tells (inl (unread, same)) = absurd unread
  file_done file name rest old new tells (inr on) = record {
    bytes = on.bytes;
    held = told_of old.shelf files name tells (λ h. h ≡ Some on.bytes) on.file.file;
    within = on.file.within;
    mid = on.mid;
    tells = on.later.files ∙ tells;
    says = on.says;
  }

  -- a region was read, and the rest was done
  pub record DidReadRegion (caps : Caps) (name : List ℕ) (rest : NetworkLists → Saying) (old new : Scene ⊤) : Type 0 where
    pub bytes : List ℕ
    pub held : files name ≡ Some bytes
    pub within : length bytes ≤ most_of Region
    pub network : NetworkLists
    pub spells : SpellThis caps bytes network
    pub rules : IsNetwork network
    pub mid : ShelfMeaning
    pub tells : mid.files ≡ Some files
    pub says : rest network (with_shelf old mid) new Done

  pub region_done : (caps : Caps) (name : List ℕ) (rest : NetworkLists → Saying) (old new : Scene ⊤) → old.shelf.files ≡ Some files
      → OnRegion caps name rest old new Done → DidReadRegion caps name rest old new
  region_done caps name rest old new tells said = spelled read.says
    where
      read : DidRead Region name (OnNetwork caps rest) old new
      read = file_done Region name (OnNetwork caps rest) old new tells said

      spelled : OnNetwork caps rest read.bytes (with_shelf old read.mid) new Done → DidReadRegion caps name rest old new
      spelled (inl (fault, none, (ends, same))) = absurd (cc)
      spelled (inr (n, is, rules, says)) = record {
        bytes = read.bytes;
        held = read.held;
        within = read.within;
        network = n;
        spells = is;
        rules = rules;
        mid = read.mid;
        tells = read.tells;
        says = says;
      }

  -- the region is there later too, and spells a network that has P
  pub region_again : (later : Files) (caps : Caps) (name : List ℕ) (rest : NetworkLists → Saying) (old new : Scene ⊤) (read : DidReadRegion caps name rest old new)
      → later name ≡ files name → (P : NetworkLists → Type 0) → P read.network → IsRegionHeld caps later name P
  region_again later caps name rest old new read stays P p =
      record { bytes = read.bytes; held = stays ∙ read.held; within = read.within; fine = (read.network, read.spells.decoded, p) }

  -- a hierarchy was read that is sound, where one was named, and the rest was done; later that is there too
  pub record DidReadSound (later : Files) (n : NetworkLists) (named : Option (List ℕ)) (rest : Option HierarchyLists → Saying) (P : Option HierarchyLists → Type 0) (old new : Scene ⊤) : Type 0 where
    pub hierarchy : Option HierarchyLists
    pub mid : ShelfMeaning
    pub says : rest hierarchy (with_shelf old mid) new Done
    pub again : P hierarchy → IsSoundIfNamed later n named P

  pub named_done : (later : Files) (n : NetworkLists) (named : Option (List ℕ)) (rest : Option HierarchyLists → Saying) (P : Option HierarchyLists → Type 0) (old new : Scene ⊤)
      → old.shelf.files ≡ Some files → StaysIfNamed files later named → OnHierarchyIfNamed n named rest old new Done → DidReadSound later n named rest P old new
  named_done later n None rest P old new tells stays says = record { hierarchy = None; mid = old.shelf; says = says; again = λ p. p }
  named_done later n (Some name) rest P old new tells stays said = spelled read.says
    where
      read : DidRead Hierarchy name (OnSound n (λ h. rest (Some h))) old new
      read = file_done Hierarchy name (OnSound n (λ h. rest (Some h))) old new tells said

      spelled : OnSound n (λ h. rest (Some h)) read.bytes (with_shelf old read.mid) new Done → DidReadSound later n (Some name) rest P old new
      spelled (inl (fault, none, (ends, same))) = absurd (cc)
      spelled (inr (h, is, inl (clause, at, by, broken, (ends, same)))) = absurd (cc)
      spelled (inr (h, is, inr (sound, says))) = record {
        hierarchy = Some h;
        mid = read.mid;
        says = says;
        again = λ p. record { bytes = read.bytes; held = stays ∙ read.held; within = read.within; fine = (h, is, sound, p) };
      }
