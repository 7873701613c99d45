pub mod LeastColumn
