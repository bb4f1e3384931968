-- The tests of every term, from those that go by its place.
use mathlib.Core.Path.{refl}
use Rattle.relation.specs.Tests.{each_at_of}
use Rattle.relation.proofs.Meant.{words_mean}
use Rattle.relation_law.specs.Words.{EachMeans}

pub each_means : EachMeans
each_means =
    record {
      no_terms = λ f. words_mean.no_terms (λ k. f) 0;
      last_term = λ f ts t. words_mean.last_term (λ k. f) 0 ts t;
      plain_tests = λ one other. refl;
      product_tests = λ one other. refl;
    }
