-- The bytes of a job read back as that job.
use Rattle.std.proofs.Common.{◌≡◌, ℕ, ◌+◌, ◌*◌, ◌^◌, ◌<◌, true, ◌&&◌, leb, List, [], ◌∷◌, ◌++◌, length, take, drop, Some, refl, ap, ◌∙◌, arith, length-append}
use lib.Seq.{take-length, drop-length}
use Rattle.std.proofs.lemmas.List.{take-append-le, drop-append-le}
use Rattle.std.proofs.lemmas.Bool.{and_parts, and_from, leb-true, le-leb, eq-eqb, cond-true}
use Rattle.jobfile.specs.declared.scheme.Scheme.{Scheme}
use Rattle.jobfile.specs.declared.scheme.Scheme.TheVariants.{ReorderBuffer, BypassBuffer, HistoryBuffer, FutureFile}
use Rattle.jobfile.specs.Jobs.{Order, Words32, scheme_number, scheme_at, well_formed, with_scheme, job_in, read_job, job_words, job_bytes, fits_file, WriteThenRead}
use Rattle.jobfile.proofs.There.{length_bytes, words_back}

scheme_back : (s : Scheme) → scheme_at (scheme_number s) ≡ Some s
scheme_back ReorderBuffer = refl
scheme_back BypassBuffer = refl
scheme_back HistoryBuffer = refl
scheme_back FutureFile = refl

scheme_small : (s : Scheme) → scheme_number s < 2 ^ 32
scheme_small ReorderBuffer = omega arith
scheme_small BypassBuffer = omega arith
scheme_small HistoryBuffer = omega arith
scheme_small FutureFile = omega arith

words32_append : (xs ys : List ℕ) → Words32 xs → Words32 ys → Words32 (xs ++ ys)
words32_append [] ys h k = k
words32_append (x ∷ xs) ys h k = (h.0, words32_append xs ys h.1 k)

take_front : (xs ys : List ℕ) → take (length xs) (xs ++ ys) ≡ xs
take_front xs ys = take-append-le (length xs) xs ys (omega arith) ∙ take-length xs

drop_front : (xs ys : List ℕ) → drop (length xs) (xs ++ ys) ≡ ys
drop_front xs ys = drop-append-le (length xs) xs ys (omega arith) ∙ ap (λ zs. zs ++ ys) (drop-length xs)

module _ (s : Scheme) (a b c d e k : ℕ) (ps ws : List ℕ) where
  abbrev order : Order
  order = record { scheme = s; delays = a ∷ (b ∷ (c ∷ (d ∷ []))); capacity = e; program = ps; words = ws; cycles = k }

  in_words : fits_file order ≡ true → job_in (36 + 4 * (length ps + length ws)) (job_words order) ≡ Some order
  in_words f =
      let p = and_parts (leb (length ps + length ws) 8192) (leb 1 k && leb k 1024) f in
      let l = leb-true (length ps + length ws) 8192 p.0 in
      let t : well_formed (36 + 4 * (length ps + length ws)) (job_words order) ≡ true =
      and_from _ _ (le-leb (36 + 4 * (length ps + length ws)) 32804 (omega arith))
      (and_from _ _ (eq-eqb (36 + 4 * (length ps + length ws)) (36 + 4 * (length ps + length ws)) refl) p.1) in
      cond-true _ _ _ t
      ∙ (ap (with_scheme (job_words order)) (scheme_back s)
      ∙ (ap (λ x. Some (record { scheme = s; delays = a ∷ (b ∷ (c ∷ (d ∷ []))); capacity = e; program = x; words = drop (length ps) (ps ++ ws); cycles = k })) (take_front ps ws)
      ∙ ap (λ x. Some (record { scheme = s; delays = a ∷ (b ∷ (c ∷ (d ∷ []))); capacity = e; program = ps; words = x; cycles = k })) (drop_front ps ws)))

  back : fits_file order ≡ true → a < 2 ^ 32 → b < 2 ^ 32 → c < 2 ^ 32 → d < 2 ^ 32 → e < 2 ^ 32 → Words32 ps → Words32 ws → read_job (job_bytes order) ≡ Some order
  back f ha hb hc hd he hp hw =
      let p = and_parts (leb (length ps + length ws) 8192) (leb 1 k && leb k 1024) f in
      let l = leb-true (length ps + length ws) 8192 p.0 in
      let m = leb-true k 1024 (and_parts (leb 1 k) (leb k 1024) p.1).1 in
      let small : Words32 (job_words order) = (scheme_small s, (ha, (hb, (hc, (hd, (he, (omega arith, (omega arith, (omega arith, words32_append ps ws hp hw))))))))) in
      let n : length (job_bytes order) ≡ 36 + 4 * (length ps + length ws) = omega (arith, length_bytes (job_words order), length-append ps ws) in
      ap (job_in (length (job_bytes order))) (words_back (job_words order) small) ∙ (ap (λ x. job_in x (job_words order)) n ∙ in_words f)

pub write_then_read : WriteThenRead
write_then_read o f four hd he hp hw = go o.delays four hd
  where
    go : (ds : List ℕ) → length ds ≡ 4 → Words32 ds
        → read_job (job_bytes (record { scheme = o.scheme; delays = ds; capacity = o.capacity; program = o.program; words = o.words; cycles = o.cycles }))
        ≡ Some (record { scheme = o.scheme; delays = ds; capacity = o.capacity; program = o.program; words = o.words; cycles = o.cycles })
    go [] l w = absurd (omega arith)
    go (a ∷ []) l w = absurd (omega arith)
    go (a ∷ (b ∷ [])) l w = absurd (omega arith)
    go (a ∷ (b ∷ (c ∷ []))) l w = absurd (omega arith)
    go (a ∷ (b ∷ (c ∷ (d ∷ [])))) l w = back o.scheme a b c d o.capacity o.cycles o.program o.words f w.0 w.1.0 w.1.1.0 w.1.1.1.0 he hp hw
    go (a ∷ (b ∷ (c ∷ (d ∷ (e ∷ ds))))) l w = absurd (omega arith)
