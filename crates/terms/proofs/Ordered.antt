-- The product terms stand in the order of the list.
use mathlib.Core.Path.{refl}
use borrow.Author.Tests.{eq-eqb, ne_eqb}
use Rattle.terms.specs.Listed.{products_of}
use Rattle.terms.specs.Claims.{ProductsInOrder}

pub products_in_order : ProductsInOrder
unfolding products_of
products_in_order = record {
  none = refl;
  single = λ t ts e. rw (eq-eqb t.second 255 e, products_of);
  product = λ t ts n. rw (ne_eqb t.second 255 n, products_of);
}
