-- Lists of 6, 7 or 8 elements, each of which is known.
use Rattle.std.proofs.Common.{◌≡◌, List, [], ◌∷◌, length, get_or, sym, ◌∙◌, arith}

pub of_6 : {X : Type 0} (xs : List X) (a0 a1 a2 a3 a4 a5 u0 u1 u2 u3 u4 u5 : X) → length xs ≡ 6 → a0 ≡ get_or xs 0 a0 → a0 ≡ u0 → a1 ≡ get_or xs 1 a1 → a1 ≡ u1 → a2 ≡ get_or xs 2 a2 → a2 ≡ u2 → a3 ≡ get_or xs 3 a3 → a3 ≡ u3 → a4 ≡ get_or xs 4 a4 → a4 ≡ u4 → a5 ≡ get_or xs 5 a5 → a5 ≡ u5 → xs ≡ u0 ∷ u1 ∷ u2 ∷ u3 ∷ u4 ∷ u5 ∷ []
of_6 [] a0 a1 a2 a3 a4 a5 u0 u1 u2 u3 u4 u5 len p0 q0 p1 q1 p2 q2 p3 q3 p4 q4 p5 q5 = absurd (let none : 0 ≡ 6 = len in omega (arith, none))
of_6 (x0 ∷ []) a0 a1 a2 a3 a4 a5 u0 u1 u2 u3 u4 u5 len p0 q0 p1 q1 p2 q2 p3 q3 p4 q4 p5 q5 = absurd (let none : 1 ≡ 6 = len in omega (arith, none))
of_6 (x0 ∷ x1 ∷ []) a0 a1 a2 a3 a4 a5 u0 u1 u2 u3 u4 u5 len p0 q0 p1 q1 p2 q2 p3 q3 p4 q4 p5 q5 = absurd (let none : 2 ≡ 6 = len in omega (arith, none))
of_6 (x0 ∷ x1 ∷ x2 ∷ []) a0 a1 a2 a3 a4 a5 u0 u1 u2 u3 u4 u5 len p0 q0 p1 q1 p2 q2 p3 q3 p4 q4 p5 q5 = absurd (let none : 3 ≡ 6 = len in omega (arith, none))
of_6 (x0 ∷ x1 ∷ x2 ∷ x3 ∷ []) a0 a1 a2 a3 a4 a5 u0 u1 u2 u3 u4 u5 len p0 q0 p1 q1 p2 q2 p3 q3 p4 q4 p5 q5 = absurd (let none : 4 ≡ 6 = len in omega (arith, none))
of_6 (x0 ∷ x1 ∷ x2 ∷ x3 ∷ x4 ∷ []) a0 a1 a2 a3 a4 a5 u0 u1 u2 u3 u4 u5 len p0 q0 p1 q1 p2 q2 p3 q3 p4 q4 p5 q5 = absurd (let none : 5 ≡ 6 = len in omega (arith, none))
of_6 (x0 ∷ x1 ∷ x2 ∷ x3 ∷ x4 ∷ x5 ∷ []) a0 a1 a2 a3 a4 a5 u0 u1 u2 u3 u4 u5 len p0 q0 p1 q1 p2 q2 p3 q3 p4 q4 p5 q5 =
    let e0 : x0 ≡ u0 = sym p0 ∙ q0 in
    let e1 : x1 ≡ u1 = sym p1 ∙ q1 in
    let e2 : x2 ≡ u2 = sym p2 ∙ q2 in
    let e3 : x3 ≡ u3 = sym p3 ∙ q3 in
    let e4 : x4 ≡ u4 = sym p4 ∙ q4 in
    let e5 : x5 ≡ u5 = sym p5 ∙ q5 in
    rw (e0, e1, e2, e3, e4, e5)
of_6 (x0 ∷ x1 ∷ x2 ∷ x3 ∷ x4 ∷ x5 ∷ y ∷ more) a0 a1 a2 a3 a4 a5 u0 u1 u2 u3 u4 u5 len p0 q0 p1 q1 p2 q2 p3 q3 p4 q4 p5 q5 = absurd (omega (arith, len))

pub of_7 : {X : Type 0} (xs : List X) (a0 a1 a2 a3 a4 a5 a6 u0 u1 u2 u3 u4 u5 u6 : X) → length xs ≡ 7 → a0 ≡ get_or xs 0 a0 → a0 ≡ u0 → a1 ≡ get_or xs 1 a1 → a1 ≡ u1 → a2 ≡ get_or xs 2 a2 → a2 ≡ u2 → a3 ≡ get_or xs 3 a3 → a3 ≡ u3 → a4 ≡ get_or xs 4 a4 → a4 ≡ u4 → a5 ≡ get_or xs 5 a5 → a5 ≡ u5 → a6 ≡ get_or xs 6 a6 → a6 ≡ u6 → xs ≡ u0 ∷ u1 ∷ u2 ∷ u3 ∷ u4 ∷ u5 ∷ u6 ∷ []
of_7 [] a0 a1 a2 a3 a4 a5 a6 u0 u1 u2 u3 u4 u5 u6 len p0 q0 p1 q1 p2 q2 p3 q3 p4 q4 p5 q5 p6 q6 = absurd (let none : 0 ≡ 7 = len in omega (arith, none))
of_7 (x0 ∷ []) a0 a1 a2 a3 a4 a5 a6 u0 u1 u2 u3 u4 u5 u6 len p0 q0 p1 q1 p2 q2 p3 q3 p4 q4 p5 q5 p6 q6 = absurd (let none : 1 ≡ 7 = len in omega (arith, none))
of_7 (x0 ∷ x1 ∷ []) a0 a1 a2 a3 a4 a5 a6 u0 u1 u2 u3 u4 u5 u6 len p0 q0 p1 q1 p2 q2 p3 q3 p4 q4 p5 q5 p6 q6 = absurd (let none : 2 ≡ 7 = len in omega (arith, none))
of_7 (x0 ∷ x1 ∷ x2 ∷ []) a0 a1 a2 a3 a4 a5 a6 u0 u1 u2 u3 u4 u5 u6 len p0 q0 p1 q1 p2 q2 p3 q3 p4 q4 p5 q5 p6 q6 = absurd (let none : 3 ≡ 7 = len in omega (arith, none))
of_7 (x0 ∷ x1 ∷ x2 ∷ x3 ∷ []) a0 a1 a2 a3 a4 a5 a6 u0 u1 u2 u3 u4 u5 u6 len p0 q0 p1 q1 p2 q2 p3 q3 p4 q4 p5 q5 p6 q6 = absurd (let none : 4 ≡ 7 = len in omega (arith, none))
of_7 (x0 ∷ x1 ∷ x2 ∷ x3 ∷ x4 ∷ []) a0 a1 a2 a3 a4 a5 a6 u0 u1 u2 u3 u4 u5 u6 len p0 q0 p1 q1 p2 q2 p3 q3 p4 q4 p5 q5 p6 q6 = absurd (let none : 5 ≡ 7 = len in omega (arith, none))
of_7 (x0 ∷ x1 ∷ x2 ∷ x3 ∷ x4 ∷ x5 ∷ []) a0 a1 a2 a3 a4 a5 a6 u0 u1 u2 u3 u4 u5 u6 len p0 q0 p1 q1 p2 q2 p3 q3 p4 q4 p5 q5 p6 q6 = absurd (let none : 6 ≡ 7 = len in omega (arith, none))
of_7 (x0 ∷ x1 ∷ x2 ∷ x3 ∷ x4 ∷ x5 ∷ x6 ∷ []) a0 a1 a2 a3 a4 a5 a6 u0 u1 u2 u3 u4 u5 u6 len p0 q0 p1 q1 p2 q2 p3 q3 p4 q4 p5 q5 p6 q6 =
    let e0 : x0 ≡ u0 = sym p0 ∙ q0 in
    let e1 : x1 ≡ u1 = sym p1 ∙ q1 in
    let e2 : x2 ≡ u2 = sym p2 ∙ q2 in
    let e3 : x3 ≡ u3 = sym p3 ∙ q3 in
    let e4 : x4 ≡ u4 = sym p4 ∙ q4 in
    let e5 : x5 ≡ u5 = sym p5 ∙ q5 in
    let e6 : x6 ≡ u6 = sym p6 ∙ q6 in
    rw (e0, e1, e2, e3, e4, e5, e6)
of_7 (x0 ∷ x1 ∷ x2 ∷ x3 ∷ x4 ∷ x5 ∷ x6 ∷ y ∷ more) a0 a1 a2 a3 a4 a5 a6 u0 u1 u2 u3 u4 u5 u6 len p0 q0 p1 q1 p2 q2 p3 q3 p4 q4 p5 q5 p6 q6 = absurd (omega (arith, len))

pub of_8 : {X : Type 0} (xs : List X) (a0 a1 a2 a3 a4 a5 a6 a7 u0 u1 u2 u3 u4 u5 u6 u7 : X) → length xs ≡ 8 → a0 ≡ get_or xs 0 a0 → a0 ≡ u0 → a1 ≡ get_or xs 1 a1 → a1 ≡ u1 → a2 ≡ get_or xs 2 a2 → a2 ≡ u2 → a3 ≡ get_or xs 3 a3 → a3 ≡ u3 → a4 ≡ get_or xs 4 a4 → a4 ≡ u4 → a5 ≡ get_or xs 5 a5 → a5 ≡ u5 → a6 ≡ get_or xs 6 a6 → a6 ≡ u6 → a7 ≡ get_or xs 7 a7 → a7 ≡ u7 → xs ≡ u0 ∷ u1 ∷ u2 ∷ u3 ∷ u4 ∷ u5 ∷ u6 ∷ u7 ∷ []
of_8 [] a0 a1 a2 a3 a4 a5 a6 a7 u0 u1 u2 u3 u4 u5 u6 u7 len p0 q0 p1 q1 p2 q2 p3 q3 p4 q4 p5 q5 p6 q6 p7 q7 = absurd (let none : 0 ≡ 8 = len in omega (arith, none))
of_8 (x0 ∷ []) a0 a1 a2 a3 a4 a5 a6 a7 u0 u1 u2 u3 u4 u5 u6 u7 len p0 q0 p1 q1 p2 q2 p3 q3 p4 q4 p5 q5 p6 q6 p7 q7 = absurd (let none : 1 ≡ 8 = len in omega (arith, none))
of_8 (x0 ∷ x1 ∷ []) a0 a1 a2 a3 a4 a5 a6 a7 u0 u1 u2 u3 u4 u5 u6 u7 len p0 q0 p1 q1 p2 q2 p3 q3 p4 q4 p5 q5 p6 q6 p7 q7 = absurd (let none : 2 ≡ 8 = len in omega (arith, none))
of_8 (x0 ∷ x1 ∷ x2 ∷ []) a0 a1 a2 a3 a4 a5 a6 a7 u0 u1 u2 u3 u4 u5 u6 u7 len p0 q0 p1 q1 p2 q2 p3 q3 p4 q4 p5 q5 p6 q6 p7 q7 = absurd (let none : 3 ≡ 8 = len in omega (arith, none))
of_8 (x0 ∷ x1 ∷ x2 ∷ x3 ∷ []) a0 a1 a2 a3 a4 a5 a6 a7 u0 u1 u2 u3 u4 u5 u6 u7 len p0 q0 p1 q1 p2 q2 p3 q3 p4 q4 p5 q5 p6 q6 p7 q7 = absurd (let none : 4 ≡ 8 = len in omega (arith, none))
of_8 (x0 ∷ x1 ∷ x2 ∷ x3 ∷ x4 ∷ []) a0 a1 a2 a3 a4 a5 a6 a7 u0 u1 u2 u3 u4 u5 u6 u7 len p0 q0 p1 q1 p2 q2 p3 q3 p4 q4 p5 q5 p6 q6 p7 q7 = absurd (let none : 5 ≡ 8 = len in omega (arith, none))
of_8 (x0 ∷ x1 ∷ x2 ∷ x3 ∷ x4 ∷ x5 ∷ []) a0 a1 a2 a3 a4 a5 a6 a7 u0 u1 u2 u3 u4 u5 u6 u7 len p0 q0 p1 q1 p2 q2 p3 q3 p4 q4 p5 q5 p6 q6 p7 q7 = absurd (let none : 6 ≡ 8 = len in omega (arith, none))
of_8 (x0 ∷ x1 ∷ x2 ∷ x3 ∷ x4 ∷ x5 ∷ x6 ∷ []) a0 a1 a2 a3 a4 a5 a6 a7 u0 u1 u2 u3 u4 u5 u6 u7 len p0 q0 p1 q1 p2 q2 p3 q3 p4 q4 p5 q5 p6 q6 p7 q7 = absurd (let none : 7 ≡ 8 = len in omega (arith, none))
of_8 (x0 ∷ x1 ∷ x2 ∷ x3 ∷ x4 ∷ x5 ∷ x6 ∷ x7 ∷ []) a0 a1 a2 a3 a4 a5 a6 a7 u0 u1 u2 u3 u4 u5 u6 u7 len p0 q0 p1 q1 p2 q2 p3 q3 p4 q4 p5 q5 p6 q6 p7 q7 =
    let e0 : x0 ≡ u0 = sym p0 ∙ q0 in
    let e1 : x1 ≡ u1 = sym p1 ∙ q1 in
    let e2 : x2 ≡ u2 = sym p2 ∙ q2 in
    let e3 : x3 ≡ u3 = sym p3 ∙ q3 in
    let e4 : x4 ≡ u4 = sym p4 ∙ q4 in
    let e5 : x5 ≡ u5 = sym p5 ∙ q5 in
    let e6 : x6 ≡ u6 = sym p6 ∙ q6 in
    let e7 : x7 ≡ u7 = sym p7 ∙ q7 in
    rw (e0, e1, e2, e3, e4, e5, e6, e7)
of_8 (x0 ∷ x1 ∷ x2 ∷ x3 ∷ x4 ∷ x5 ∷ x6 ∷ x7 ∷ y ∷ more) a0 a1 a2 a3 a4 a5 a6 a7 u0 u1 u2 u3 u4 u5 u6 u7 len p0 q0 p1 q1 p2 q2 p3 q3 p4 q4 p5 q5 p6 q6 p7 q7 = absurd (omega (arith, len))
