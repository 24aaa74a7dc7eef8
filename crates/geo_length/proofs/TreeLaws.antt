-- Laws of trees of boxes.
use Rattle.plan_base.proofs.Common.{◌≡◌, List, ◌++◌, sym, subst, All-append, All-weaker}
use Rattle.geo_length.specs.{AreInside, IsInBounds, Bounds, Tree, Leaf, Fork', Point, AreBounded, bounds_of}

-- the box of a tree is around its points
pub all_inside : (tree : Tree) (points : List Point) → AreBounded tree points → AreInside (bounds_of tree) points
all_inside (Leaf bounds) points h = h
all_inside (Fork' bounds p left q right) points h = h.0

-- a box around the boxes of both halves is around the points
pub halves_inside : (points front back : List Point) (left right : Tree) (bounds : Bounds) → points ≡ front ++ back → AreBounded left front → AreBounded right back
    → ((point : Point) → IsInBounds (bounds_of left) point → IsInBounds bounds point) → ((point : Point) → IsInBounds (bounds_of right) point → IsInBounds bounds point) → AreInside bounds points
halves_inside points front back left right bounds is fronts backs kept other =
    subst (AreInside bounds) (sym is) (All-append (IsInBounds bounds) front back
    (All-weaker (IsInBounds (bounds_of left)) (IsInBounds bounds) kept front (all_inside left front fronts))
    (All-weaker (IsInBounds (bounds_of right)) (IsInBounds bounds) other back (all_inside right back backs)))
