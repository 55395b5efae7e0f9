-- What is loaded, and the machine before its first order.
pub mod BeforeOrders
