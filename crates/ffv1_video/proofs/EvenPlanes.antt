-- The planes of a picture of red, green and blue are of one size.
use Rattle.std.proofs.Common.{◌≡◌, refl, ◌⊎◌, ℕ, zero, suc, ◌*◌, ◌<◌, ◌==◌, if◌then◌else◌, Bool, true, false, Option, List, [], ◌∷◌, length, map, get_or, inl, inr, ap, ap₂, sym, subst, ◌∙◌, arith, true≢false}
use Rattle.std.proofs.lemmas.Option.{slice_get-get_or}
use Rattle.ffv1_samples.specs.Samples.{sample_bytes}
use Rattle.ffv1_record.specs.Configuration.{Configuration}
use Rattle.ffv1_slice.specs.Grid.{division_of, planes_in}
use Rattle.ffv1_frame.specs.Picture.{AreOf, Planes, plane_height, plane_width, samples_in}
use Rattle.ffv1_y4m.specs.VideoHead.{Fits as VideoFits, colour_head, reduced}
use Rattle.ffv1_y4m.specs.declared.head.VideoHead.{VideoHead}
use Rattle.ffv1_video.specs.RawPicture.{AreEven}

three_or_four : (chroma extra : Bool) → chroma ≡ true → (planes_in chroma extra ≡ 3) ⊎ (planes_in chroma extra ≡ 4)
three_or_four chroma true e = inr refl
three_or_four true false e = inl refl
three_or_four false false e = absurd (true≢false (sym e))

module _ (c : Configuration) (planes : Planes) (chroma : c.chroma_planes ≡ true) (wide : (p : ℕ) → plane_width c p ≡ c.width) (high : (p : ℕ) → plane_height c p ≡ c.height)
    (of : AreOf (division_of c) planes) where
  size_is : (p : ℕ) → p < length planes → length (get_or planes p []) ≡ sample_bytes c.depth * (c.width * c.height)
  size_is p inside =
      let within : p < planes_in c.chroma_planes c.extra_plane = omega (arith, of.count, inside) in
      sym (ap (λ (o : Option (List ℕ)). length (samples_in o)) (slice_get-get_or planes p [] inside)) ∙ of.sizes p within ∙ ap₂ (λ w h. sample_bytes c.depth * (w * h)) (wide p) (high p)

  pub even_planes : AreEven planes
  even_planes = record {
    count = elim (three_or_four c.chroma_planes c.extra_plane chroma) [
      | inl three ↦ inl (of.count ∙ three)
      | inr four ↦ inr (of.count ∙ four)
    ];
    sizes = λ p q pi qi. size_is p pi ∙ sym (size_is q qi);
  }

-- ---- those of an image

module _ (a b c : List ℕ) (k : ℕ) (first : length a ≡ k) (second : length b ≡ k) (third : length c ≡ k) where
  long : (p : ℕ) → p < 3 → length (get_or (a ∷ b ∷ c ∷ []) p []) ≡ k
  long zero inside = first
  long (suc zero) inside = second
  long (suc (suc zero)) inside = third
  long (suc (suc (suc p))) inside = absurd (omega (arith, inside))

  even_three : AreEven (a ∷ b ∷ c ∷ [])
  even_three = record { count = inl refl; sizes = λ p q pi qi. long p pi ∙ sym (long q qi) }

even_sizes : (planes : Planes) (n m : ℕ) → m ≡ n → map (λ p. length p) planes ≡ n ∷ m ∷ m ∷ [] → AreEven planes
even_sizes [] n m same e = absurd (cc)
even_sizes (a ∷ []) n m same e = absurd (cc)
even_sizes (a ∷ b ∷ []) n m same e = absurd (cc)
even_sizes (a ∷ b ∷ c ∷ []) n m same e =
    let first : length a ≡ n = cc in
    let second : length b ≡ n = cc in
    let third : length c ≡ n = cc in
    even_three a b c n first second third
even_sizes (a ∷ b ∷ c ∷ d ∷ more) n m same e = absurd (cc)

even_by : (one : Bool) (planes : Planes) (n m : ℕ) → m ≡ n → map (λ p. length p) planes ≡ (if one then n ∷ m ∷ m ∷ [] else map (λ size. 2 * size) (n ∷ m ∷ m ∷ [])) → AreEven planes
even_by true planes n m same e = even_sizes planes n m same e
even_by false planes n m same e = even_sizes planes (2 * n) (2 * m) (ap (λ k. 2 * k) same) e

whole : (n : ℕ) → reduced 0 n ≡ n
whole n = omega arith

pub even_images : (depth : ℕ) (h : VideoHead) (planes : Planes) → h ≡ colour_head h.width h.height → VideoFits depth h planes → AreEven planes
even_images depth h planes is fits =
    even_by (depth == 8) planes (h.width * h.height) (reduced 0 h.width * reduced 0 h.height) (ap₂ (λ x y. x * y) (whole h.width) (whole h.height))
    (subst (λ v. VideoFits depth v planes) is fits)
