-- How wide a degree of longitude is at each whole degree of latitude, 0 to 90, in ten-thousandths of its
-- width at the equator. These numbers are the rule, whatever a cosine would give.
use Rattle.std.specs.Prelude.{ℕ, List, [], ◌∷◌, slice_index}

abbrev pub widths : List ℕ
widths =
    10000 ∷ 9998 ∷ 9994 ∷ 9986 ∷ 9976 ∷ 9962 ∷ 9945 ∷ 9925 ∷ 9903 ∷ 9877 ∷
    9848 ∷ 9816 ∷ 9781 ∷ 9744 ∷ 9703 ∷ 9659 ∷ 9613 ∷ 9563 ∷ 9511 ∷ 9455 ∷
    9397 ∷ 9336 ∷ 9272 ∷ 9205 ∷ 9135 ∷ 9063 ∷ 8988 ∷ 8910 ∷ 8829 ∷ 8746 ∷
    8660 ∷ 8572 ∷ 8480 ∷ 8387 ∷ 8290 ∷ 8192 ∷ 8090 ∷ 7986 ∷ 7880 ∷ 7771 ∷
    7660 ∷ 7547 ∷ 7431 ∷ 7314 ∷ 7193 ∷ 7071 ∷ 6947 ∷ 6820 ∷ 6691 ∷ 6561 ∷
    6428 ∷ 6293 ∷ 6157 ∷ 6018 ∷ 5878 ∷ 5736 ∷ 5592 ∷ 5446 ∷ 5299 ∷ 5150 ∷
    5000 ∷ 4848 ∷ 4695 ∷ 4540 ∷ 4384 ∷ 4226 ∷ 4067 ∷ 3907 ∷ 3746 ∷ 3584 ∷
    3420 ∷ 3256 ∷ 3090 ∷ 2924 ∷ 2756 ∷ 2588 ∷ 2419 ∷ 2250 ∷ 2079 ∷ 1908 ∷
    1736 ∷ 1564 ∷ 1392 ∷ 1219 ∷ 1045 ∷ 872 ∷ 698 ∷ 523 ∷ 349 ∷ 175 ∷
    0 ∷ []

-- the width at a whole degree
unfoldable pub width_at : ℕ → ℕ
width_at degree = slice_index widths degree
